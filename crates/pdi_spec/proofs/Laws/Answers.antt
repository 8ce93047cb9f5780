-- Laws of the answers of bill, body, read and the host's read: of bill and body for any list of rules, of all four for any question by
-- its own rules. Acceptances ask that these are as Supported says. Assumes nothing.
use Rattle.std.specs.Prelude.{ℕ, zero, suc, ◌+◌, ◌*◌, ◌/◌, ◌≤◌, ◌<◌, ◌↔◌, ◌⊎◌, ◌≡◌, drop, get_or}
use Rattle.std.proofs.Common.{arith, ◌∙◌, length-take, length-drop, take-take}
use mathlib.Core.List.{List, [], ◌∷◌, ◌++◌, flat_map, Mem, mem-cons_of_mem}
use Rattle.std.proofs.Math.Path.{refl, sym, ap}
use Rattle.std.proofs.Math.ListN.{length, take}
use Rattle.pdi_spec.specs.{Limits.head_width, Limits.row_width, Limits.buffer_numbers, Limits.number_bytes, Limits.buffer_bytes, File.File, File.partitions, File.header, Ranges.Range, Ranges.span, Ranges.body, Verdict.Rule, Verdict.Outcome, Verdict.accepted, Verdict.refused, Verdict.verdict, RuleList.rule1, RuleList.without_buffer, RuleList.with_rows, RuleList.with_host_rows, RuleList.rule14, RuleList.rule15, Answers.answer, Answers.if_accepted, Answers.head, Answers.head_and_rows, Answers.written, Answers.rows_after, Answers.cut, Answers.asked, Answers.read_by, Answers.rows_by, Answers.bill_by, Answers.body_by, Answers.billed, Answers.bill_under, Answers.empty_part, Answers.part_under, Answers.body_under, Host.le_bytes, Host.written_bytes, Host.bytes_after, Host.host_read_by, Host.host_rows_by, Stated.by_rows, Stated.in_spans, Loading.Memory, Loading.Feed, Loading.Whole, Loading.Loaded, Supported.Supported}
use Rattle.pdi_spec.proofs.Laws.{Lists.flat_map_length, Partitions.refused_gives, Partitions.other_gives, Partitions.accepted_gives, Refusals.answer_refused, Refusals.with_room, Refusals.few_partitions, Refusals.zero_accepted, Refusals.zero_accepts, Refusals.buffer_accepts, Rows.written_length, Rows.after_accepted, Rows.after_refused, Rows.length_after, Rows.rows_state, Stated.accepted_loads, Stated.accepted_bill, Verdict.accepted_kept, Kept.lengths_stated, Kept.span_stated}

-- ---- bill

pub bill_accepted : (rs : List Rule) (f : File) → verdict rs f ≡ accepted → bill_under rs f ≡ billed f
unfolding bill_under if_accepted
bill_accepted rs f e = rw e refl

pub bill_refused : (rs : List Rule) (f : File) (k p : ℕ) → verdict rs f ≡ refused k p → bill_under rs f ≡ 0
unfolding bill_under if_accepted
bill_refused rs f k p e = rw e refl

-- ---- body

-- refused, there is no part
pub part_refused : (rs : List Rule) (f : File) (k p : ℕ) → verdict rs f ≡ refused k p → (q : ℕ) → part_under rs f q ≡ empty_part
unfolding part_under
part_refused rs f k p e q = refused_gives rs f q (body f q) empty_part e

pub body_refused : (rs : List Rule) (f : File) (k p : ℕ) → verdict rs f ≡ refused k p → (q : ℕ) → body_under rs f q ≡ []
unfolding body_under cut
body_refused rs f k p e q = ap (λ (r : Range). cut r f.bytes) (part_refused rs f k p e q)

-- of a p that isn't 1 to N there is none
pub part_none : (rs : List Rule) (f : File) (p : ℕ) → (p < 1) ⊎ (partitions f < p) → part_under rs f p ≡ empty_part
unfolding part_under
part_none rs f p = other_gives rs f p (body f p) empty_part

pub body_none : (rs : List Rule) (f : File) (p : ℕ) → (p < 1) ⊎ (partitions f < p) → body_under rs f p ≡ []
unfolding body_under cut
body_none rs f p h = ap (λ (r : Range). cut r f.bytes) (part_none rs f p h)

-- where a list accepts, it is the body of partition p
pub part_accepted : (rs : List Rule) (f : File) → verdict rs f ≡ accepted → (p : ℕ) → 1 ≤ p → p ≤ partitions f
    → part_under rs f p ≡ body f p
unfolding part_under
part_accepted rs f e p = accepted_gives rs f p (body f p) empty_part e

pub body_accepted : (rs : List Rule) (f : File) → verdict rs f ≡ accepted → (p : ℕ) → 1 ≤ p → p ≤ partitions f
    → body_under rs f p ≡ cut (body f p) f.bytes
unfolding body_under
body_accepted rs f e p low high = ap (λ (r : Range). cut r f.bytes) (part_accepted rs f e p low high)

-- with rules 14 and 15 it is the first 4E bytes of the span, and as many
pub body_under_lem : (rs : List Rule) (f : File) → verdict rs f ≡ accepted → Mem rule14 rs → Mem rule15 rs
    → (p : ℕ) → 1 ≤ p → p ≤ partitions f
    → (body_under rs f p ≡ take (4 * (header f p).encrypted) (cut (span f p) f.bytes))
    × (length (body_under rs f p) ≡ 4 * (header f p).encrypted)
unfolding cut body span
body_under_lem rs f e m14 m15 p low high =
    let here = body_accepted rs f e p low high in
    let order = (lengths_stated f p low high (accepted_kept rs f e m14)).2 in
    let end = span_stated f p low high (accepted_kept rs f e m15) in
    let stored : List ℕ = drop (4 * (header f p).data_offset) f.bytes in (
      here ∙ sym (take-take (4 * (header f p).encrypted) (4 * (header f p).total) stored (omega arith)),
      ap length here ∙ length-take (4 * (header f p).encrypted) stored ∙ omega (arith, length-drop (4 * (header f p).data_offset) f.bytes),
    )

-- ---- read and the host's read, of any question

-- 8 bytes to a number
pub le_length : (n number : ℕ) → length (le_bytes n number) ≡ n
unfolding le_bytes
le_length zero number = refl
le_length (suc n) number = ap suc (le_length n (number / 256))

pub bytes_length : (xs : List ℕ) → length (flat_map (le_bytes number_bytes) xs) ≡ number_bytes * length xs
bytes_length = flat_map_length number_bytes (le_bytes number_bytes) (le_length number_bytes)

module _ (own : List Rule) (image : List ℕ) (place : ℕ) where
  -- refused, the row buffer stays as found
  pub read_refused : (rows : List ℕ) → (read_by own image place rows ≡ 0 → ⊥) → rows_by own image place rows ≡ rows
  unfolding read_by rows_by
  read_refused rows n = let t = answer_refused _ (asked image place) n in after_refused _ (asked image place) rows t.0 t.1 t.2

  pub host_refused : (rows : List ℕ) → (host_read_by own image place rows ≡ 0 → ⊥) → host_rows_by own image place rows ≡ rows
  unfolding host_read_by host_rows_by bytes_after written_bytes written if_accepted flat_map
  host_refused rows n = let t = answer_refused (with_host_rows (length rows) own) (asked image place) n in rw t.2 refl

  -- with buffers that serve, the host's read answers as read does
  pub host_same : (rows bytes : List ℕ) → buffer_numbers ≤ length rows → buffer_bytes ≤ length bytes
      → host_read_by own image place bytes ≡ read_by own image place rows
  unfolding host_read_by read_by with_host_rows with_rows
  host_same rows bytes h k =
      let f = asked image place in
      ap answer (with_room buffer_bytes (length bytes) own f k ∙ sym (with_room buffer_numbers (length rows) own f h))

-- ---- of a question whose own rules are as Supported says

module _ {own : List Rule} (s : Supported own) (image : List ℕ) (place : ℕ) where
  abbrev f : File
  f = asked image place

  pub listed : {r : Rule} → Mem r own → Mem r (without_buffer own)
  unfolding without_buffer
  listed m = mem-cons_of_mem rule1 m

  module _ (rows : List ℕ) where
    -- it answers 0 exactly where the buffer serves and the list without one accepts
    pub read_accepts : (read_by own image place rows ≡ 0)
        ↔ ((buffer_numbers ≤ length rows) × (verdict (without_buffer own) (asked image place) ≡ accepted))
    unfolding read_by with_rows
    read_accepts = zero_accepts s buffer_numbers (length rows) f

    pub host_accepts : (host_read_by own image place rows ≡ 0)
        ↔ ((buffer_bytes ≤ length rows) × (verdict (without_buffer own) (asked image place) ≡ accepted))
    unfolding host_read_by with_host_rows
    host_accepts = zero_accepts s buffer_bytes (length rows) f

    pub read_verdict : read_by own image place rows ≡ 0 → verdict (with_rows (length rows) own) (asked image place) ≡ accepted
    unfolding read_by with_rows
    read_verdict = zero_accepted s buffer_numbers (length rows) f

    -- 260 numbers have room for the rows of 32 partitions
    pub read_length : length (rows_by own image place rows) ≡ length rows
    unfolding rows_by with_rows
    read_length = go (verdict (with_rows (length rows) own) f) refl
      where
        go : (o : Outcome) → verdict (with_rows (length rows) own) f ≡ o
            → length (rows_after (with_rows (length rows) own) f rows) ≡ length rows
        go (refused k p) e = ap length (after_refused _ f rows k p e)
        go accepted e =
            let t = (buffer_accepts buffer_numbers (length rows) own f).0 e in
            length_after _ f rows e (omega (arith, t.0, few_partitions s f t.1))

    module _ (e : read_by own image place rows ≡ 0) where
      bill_verdict : verdict (without_buffer own) f ≡ accepted
      bill_verdict = (read_accepts.0 e).1

      -- the head's third number counts the partitions, so that a buffer that serves has room for their rows
      pub count_written : get_or (rows_by own image place rows) 2 0 ≡ partitions (asked image place)
      unfolding rows_by by_rows
      count_written = (rows_state _ f rows (read_verdict e)).same_count

      pub rows_fit : head_width + row_width * get_or (rows_by own image place rows) 2 0 ≤ buffer_numbers
      rows_fit = omega (arith, count_written, few_partitions s f bill_verdict)

      pub fourth_is_bill : take 1 (drop 3 (rows_by own image place rows)) ≡ bill_by own image place ∷ []
      unfolding rows_by bill_by head_and_rows head
      fourth_is_bill =
          ap (λ (l : List ℕ). take 1 (drop 3 l)) (after_accepted _ f rows (read_verdict e))
          ∙ ap (λ (b : ℕ). b ∷ []) (sym (bill_accepted _ f bill_verdict))

      pub read_loads : (m : Memory) (feeds : List Feed) → Whole (by_rows (rows_by own image place rows)) feeds
          → Loaded (by_rows (rows_by own image place rows)) m feeds
      unfolding rows_by
      read_loads =
          accepted_loads (rows_state _ f rows (read_verdict e)) (without_buffer own) bill_verdict (listed s.addresses) (listed s.loads)

      pub read_counts : bill_by own image place ≡ in_spans (by_rows (rows_by own image place rows)) (length image)
      unfolding rows_by bill_by
      read_counts =
          (accepted_bill (rows_state _ f rows (read_verdict e)) (without_buffer own) bill_verdict (listed s.spans) (listed s.stored)).0

    pub host_rows_lem : host_read_by own image place rows ≡ 0
        → host_rows_by own image place rows
        ≡ flat_map (le_bytes number_bytes) (head_and_rows (asked image place))
        ++ drop (number_bytes * (head_width + row_width * partitions (asked image place))) rows
    unfolding host_read_by host_rows_by bytes_after written_bytes written if_accepted with_host_rows
    host_rows_lem e =
        let size = bytes_length (head_and_rows f) ∙ ap (λ (n : ℕ). number_bytes * n) (written_length f) in
        rw (zero_accepted s buffer_bytes (length rows) f e) (rw size refl)

  pub body_stated : (p : ℕ) → verdict (without_buffer own) (asked image place) ≡ accepted → 1 ≤ p → p ≤ partitions (asked image place)
      → (body_by own image place p ≡ take (4 * (header (asked image place) p).encrypted) (cut (span (asked image place) p) image))
      × (length (body_by own image place p) ≡ 4 * (header (asked image place) p).encrypted)
  unfolding body_by
  body_stated p e = body_under_lem (without_buffer own) f e (listed s.lengths) (listed s.spans) p
