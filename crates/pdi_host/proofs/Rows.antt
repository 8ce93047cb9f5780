-- The host's read by read itself, of any question: both answer alike where both buffers serve, or neither does, and what read wrote is
-- what the host's row buffer takes, 8 bytes to a number. Assumes nothing.
use Rattle.std.proofs.Common.{◌≡◌, ℕ, zero, suc, ◌+◌, ◌*◌, ◌≤◌, ◌<◌, List, [], ◌∷◌, ◌++◌, length, take, drop, get_or, refl, sym, ◌∙◌, ap, ap₂, arith, take_at, length-take-le}
use Rattle.std.proofs.lemmas.List.Edits.{sets}
use Rattle.pdi_spec.specs.{Limits.head_width, Limits.row_width, Limits.buffer_numbers, Limits.buffer_bytes, Limits.number_bytes, File.File, File.partitions, Verdict.Rule, RuleList.plain_rules, Answers.asked, Answers.head_and_rows, Answers.read_by, Answers.rows_by, Host.host_read_by, Host.host_rows_by, Supported.Supported}
use Rattle.pdi_spec.proofs.Laws.{Answers.host_accepts, Answers.host_same, Answers.host_refused, Answers.host_rows_lem, Answers.read_length, Answers.read_refused, Answers.read_verdict, Answers.count_written, Answers.rows_fit, Plain.plain, Questions.host_beside, Rows.written_length, Rows.after_accepted}
use Rattle.pdi_host.proofs.Buffers.{bytes_of, whole}

module _ {own : List Rule} (s : Supported own) (image : List ℕ) (place : ℕ) where
  abbrev f : File
  f = asked image place

  -- how many numbers of a row buffer read's caller stores
  abbrev count : List ℕ → ℕ
  count numbers = head_width + row_width * get_or numbers 2 0

  -- of a buffer that held 0, no more than it has, of a refusal too, which leaves it as found
  pub numbers_few : (rows : List ℕ) → get_or rows 2 0 ≡ 0 → count (rows_by own image place rows) ≤ buffer_numbers
  numbers_few rows blank = go (read_by own image place rows) refl
    where
      go : (r : ℕ) → read_by own image place rows ≡ r → count (rows_by own image place rows) ≤ buffer_numbers
      go zero e = rows_fit s image place rows e
      go (suc k) e =
          let as_found = read_refused own image place rows (λ z. absurd (omega (arith, e, z))) in
          omega (arith, ap (λ (l : List ℕ). get_or l 2 0) as_found, blank)

  -- and the buffer is as long as before
  pub numbers_fit : (rows : List ℕ) → length rows ≡ buffer_numbers → get_or rows 2 0 ≡ 0 → {numbers : List ℕ}
      → numbers ≡ rows_by own image place rows
      → (length numbers ≡ buffer_numbers) × (head_width + row_width * get_or numbers 2 0 ≤ buffer_numbers)
  numbers_fit rows size blank en =
      (ap length en ∙ read_length s image place rows ∙ size, rw en (numbers_few rows blank))

  -- where read accepts, those are the head and the rows
  pub taken : (rows : List ℕ) → read_by own image place rows ≡ 0
      → take (count (rows_by own image place rows)) (rows_by own image place rows) ≡ head_and_rows f
  unfolding rows_by
  taken rows z =
      ap₂ (λ (n : ℕ) (l : List ℕ). take (head_width + row_width * n) l) (count_written s image place rows z)
      (after_accepted _ f rows (read_verdict s image place rows z))
      ∙ take_at (head_and_rows f) (drop (head_width + row_width * partitions f) rows) (head_width + row_width * partitions f)
      (written_length f)

  module _ (bytes : List ℕ) where
    -- a buffer that is too short
    pub short_answer : length bytes < buffer_bytes → read_by own image place (0 ∷ []) ≡ host_read_by own image place bytes
    short_answer h =
        sym (host_beside own image place (0 ∷ []) bytes (λ one. absurd (omega (arith, one)), λ two. absurd (omega (arith, two, h))))

    pub short_kept : length bytes < buffer_bytes → host_rows_by own image place bytes ≡ bytes
    short_kept h = host_refused own image place bytes (λ z. absurd (omega (arith, ((host_accepts s image place bytes).0 z).0)))

    -- one that serves, and read's own
    module _ (rows : List ℕ) (size : length rows ≡ buffer_numbers) (room : buffer_bytes ≤ length bytes) where
      pub same_answer : read_by own image place rows ≡ host_read_by own image place bytes
      same_answer = sym (host_same own image place rows bytes (omega arith) room)

      pub stored : read_by own image place rows ≡ 0
          → sets bytes 0 (bytes_of (take (count (rows_by own image place rows)) (rows_by own image place rows)))
          ≡ host_rows_by own image place bytes
      stored z =
          ap (λ (l : List ℕ). sets bytes 0 (bytes_of l)) (taken rows z)
          ∙ whole (head_and_rows f) bytes
          (omega (arith, written_length f, rows_fit s image place rows z, count_written s image place rows z))
          ∙ ap (λ (n : ℕ). bytes_of (head_and_rows f) ++ drop (number_bytes * n) bytes) (written_length f)
          ∙ sym (host_rows_lem s image place bytes (sym same_answer ∙ z))

    -- both answers at once, of what read answered and left
    abbrev Answers : ℕ → List ℕ → Type 0
    Answers r after = (r ≡ host_read_by own image place bytes) × (after ≡ host_rows_by own image place bytes)

    pub short_answers : length bytes < buffer_bytes → {r : ℕ} → r ≡ read_by own image place (0 ∷ []) → Answers r bytes
    short_answers h e = (e ∙ short_answer h, sym (short_kept h))

    module _ (room : buffer_bytes ≤ length bytes) (rows : List ℕ) (size : length rows ≡ buffer_numbers) {r : ℕ}
        (er : r ≡ read_by own image place rows) where
      pub refused_answers : (r ≡ 0 → ⊥) → Answers r bytes
      refused_answers n =
          let same = er ∙ same_answer rows size room in
          (same, sym (host_refused own image place bytes (λ z. n (same ∙ z))))

      pub accepted_answers : (z : r ≡ 0) {numbers : List ℕ} (en : numbers ≡ rows_by own image place rows) {after : List ℕ}
          → after ≡ sets bytes 0 (bytes_of (take (head_width + row_width * get_or numbers 2 0) numbers)) → Answers r after
      accepted_answers z en ea = (
        er ∙ same_answer rows size room,
        ea
            ∙ ap (λ (l : List ℕ). sets bytes 0 (bytes_of (take (count l) l))) en
            ∙ stored rows size room (sym er ∙ z),
      )

-- ---- of plain reading

pub plain_few : (image : List ℕ) (place : ℕ) (rows : List ℕ) → get_or rows 2 0 ≡ 0
    → head_width + row_width * get_or (rows_by plain_rules image place rows) 2 0 ≤ buffer_numbers
plain_few = numbers_few plain

pub plain_length : (image : List ℕ) (place : ℕ) (rows : List ℕ) → length (rows_by plain_rules image place rows) ≡ length rows
plain_length = read_length plain

module _ (image : List ℕ) (place : ℕ) (bytes : List ℕ) where
  pub plain_short : length bytes < buffer_bytes → host_read_by plain_rules image place bytes ≡ read_by plain_rules image place (0 ∷ [])
  plain_short h = sym (short_answer plain image place bytes h)

  pub plain_short_kept : length bytes < buffer_bytes → host_rows_by plain_rules image place bytes ≡ bytes
  plain_short_kept = short_kept plain image place bytes

  pub plain_kept : (host_read_by plain_rules image place bytes ≡ 0 → ⊥) → host_rows_by plain_rules image place bytes ≡ bytes
  plain_kept = host_refused plain_rules image place bytes

  module _ (rows : List ℕ) (size : length rows ≡ buffer_numbers) (room : buffer_bytes ≤ length bytes) where
    pub plain_same : read_by plain_rules image place rows ≡ host_read_by plain_rules image place bytes
    plain_same = same_answer plain image place bytes rows size room

    pub plain_stored : read_by plain_rules image place rows ≡ 0
        → sets bytes 0
        (bytes_of
        (take (head_width + row_width * get_or (rows_by plain_rules image place rows) 2 0) (rows_by plain_rules image place rows)))
        ≡ host_rows_by plain_rules image place bytes
    plain_stored = stored plain image place bytes rows size room

pub ruleset plain_laws = (plain_few, plain_length, length-take-le, plain_short, plain_short_kept, plain_same, plain_kept, plain_stored)
