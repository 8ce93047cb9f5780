-- The host's row buffer as numbers: a call leaves there just what read leaves in a buffer of those numbers. That a number of eight bytes
-- reads back is asked of an image whose bytes are below 256. Assumes nothing.
use Rattle.std.specs.Prelude.{ℕ, zero, suc, ◌+◌, ◌*◌, ◌-◌, ◌/◌, ◌^◌, ◌<◌, true, ◌≡◌, refl, length, take, drop, get_or}
use Rattle.std.proofs.Common.{pow-suc, arith, ◌∙◌, ap₂, length-append, length-drop, take_at, drop_at, drop-drop}
use mathlib.Core.List.{List, [], ◌∷◌, ◌++◌, flat_map, append_assoc}
use Rattle.std.proofs.Math.Bool.{false}
use Rattle.std.proofs.Math.Logic.{⊎_elim}
use Rattle.std.proofs.Math.Path.{sym, ap}
use Rattle.std.proofs.Math.Dec.{eqb}
use borrow.Author.Tests.{eqb-true, eqb-false}
use Rattle.pdi_spec.specs.{Limits.head_width, Limits.row_width, Limits.number_bytes, File.File, File.partitions, Verdict.Rule, Answers.head_and_rows, Answers.asked, Answers.read_by, Answers.rows_by, Host.le_bytes, Host.le_number, Host.numbers_from, Host.host_numbers, Host.host_read_by, Host.host_rows_by, Supported.Supported}
use Rattle.pdi_spec.proofs.Laws.{Lists.Every, Tests.either, Refusals.few_partitions, Rows.written_length, Rows.after_accepted, Answers.le_length, Answers.bytes_length, Answers.host_accepts, Answers.read_refused, Answers.host_refused, Answers.read_verdict, Answers.host_rows_lem, Questions.host_beside, Widths.all_narrow}

-- ---- numbers and their bytes

-- n bytes hold a number below 256 to the n
reads_back : (n number : ℕ) → number < 256 ^ n → le_number (le_bytes n number) ≡ number
unfolding le_number le_bytes
reads_back zero number h = omega arith
reads_back (suc n) number h =
    let small : number / 256 < 256 ^ n = omega (arith, pow-suc 256 n) in
    omega (arith, reads_back n (number / 256) small)

from_length : (n : ℕ) (bytes : List ℕ) → length (numbers_from n bytes) ≡ n
unfolding numbers_from
from_length zero bytes = refl
from_length (suc n) bytes = ap suc (from_length n (drop number_bytes bytes))

pub numbers_length : (bytes : List ℕ) → length (host_numbers bytes) ≡ length bytes / number_bytes
unfolding host_numbers
numbers_length bytes = from_length _ bytes

-- numbers that were stored are read, and then what stands behind them
stored_first : (n k : ℕ) (xs rest : List ℕ) → k ≡ length xs + n → Every (λ (x : ℕ). x < 2 ^ 64) xs
    → numbers_from k (flat_map (le_bytes number_bytes) xs ++ rest) ≡ xs ++ numbers_from n rest
unfolding numbers_from flat_map
stored_first n k [] rest e h = ap (λ (m : ℕ). numbers_from m rest) {x = k} {y = n} (omega arith)
stored_first n zero (x ∷ xs) rest e h = absurd (omega arith)
stored_first n (suc k) (x ∷ xs) rest e h =
    let stored = le_bytes number_bytes x in
    let later = flat_map (le_bytes number_bytes) xs ++ rest in
    let split = append_assoc stored (flat_map (le_bytes number_bytes) xs) rest in
    let first = ap (take number_bytes) split ∙ take_at stored later number_bytes (le_length number_bytes x) in
    let behind = ap (drop number_bytes) split ∙ drop_at stored later number_bytes (le_length number_bytes x) in
    ap₂ (λ (y : ℕ) (ys : List ℕ). y ∷ ys) (ap le_number first ∙ reads_back number_bytes x (omega (arith, h.0)))
    (ap (numbers_from k) behind ∙ stored_first n k xs rest (omega arith) h.1)

-- numbers from the m-th on
later_numbers : (m n k : ℕ) (bytes : List ℕ) → k ≡ m + n → numbers_from n (drop (number_bytes * m) bytes) ≡ drop m (numbers_from k bytes)
unfolding numbers_from
later_numbers zero n k bytes e = ap (λ (j : ℕ). numbers_from j bytes) {x = n} {y = k} (omega arith)
later_numbers (suc m) n zero bytes e = absurd (omega arith)
later_numbers (suc m) n (suc k) bytes e =
    ap (numbers_from n)
    (ap (λ (j : ℕ). drop j bytes) {x = number_bytes * suc m} {y = number_bytes + number_bytes * m} (omega arith)
    ∙ sym (drop-drop (number_bytes * m) number_bytes bytes))
    ∙ later_numbers m n k (drop number_bytes bytes) (omega arith)

-- ---- the host's call beside read's

module _ {own : List Rule} (s : Supported own) (image : List ℕ) (place : ℕ) (bytes : List ℕ) where
  abbrev f : File
  f = asked image place

  abbrev width : ℕ
  width = head_width + row_width * partitions f

  -- the host's read answers as read does of the buffer's numbers
  pub host_is_read : host_read_by own image place bytes ≡ read_by own image place (host_numbers bytes)
  host_is_read =
      let long = numbers_length bytes in
      host_beside own image place (host_numbers bytes) bytes (λ h. omega (arith, h, long), λ h. omega (arith, h, long))

  -- and what it leaves there is what read leaves of them
  pub host_numbers_lem : ((i : ℕ) → get_or image i 0 < 256)
      → host_numbers (host_rows_by own image place bytes) ≡ rows_by own image place (host_numbers bytes)
  unfolding host_numbers rows_by
  host_numbers_lem small = ⊎_elim written as_found (either (eqb (host_read_by own image place bytes) 0))
    where
      as_found : eqb (host_read_by own image place bytes) 0 ≡ false
          → host_numbers (host_rows_by own image place bytes) ≡ rows_by own image place (host_numbers bytes)
      as_found e =
          let no : host_read_by own image place bytes ≡ 0 → ⊥ = eqb-false _ _ e in
          ap host_numbers (host_refused own image place bytes no)
          ∙ sym (read_refused own image place (host_numbers bytes) (λ z. no (host_is_read ∙ z)))

      written : eqb (host_read_by own image place bytes) 0 ≡ true
          → host_numbers (host_rows_by own image place bytes) ≡ rows_by own image place (host_numbers bytes)
      written q =
          let e = eqb-true (host_read_by own image place bytes) 0 q in
          let after = host_rows_lem s image place bytes e in
          let t = (host_accepts s image place bytes).0 e in
          let few = few_partitions s f t.1 in
          let rest = length bytes / number_bytes - width in
          let stored = flat_map (le_bytes number_bytes) (head_and_rows f) in
          let size : length (stored ++ drop (number_bytes * width) bytes) ≡ length bytes =
          length-append stored (drop (number_bytes * width) bytes)
          ∙ omega (arith, bytes_length (head_and_rows f), written_length f, length-drop (number_bytes * width) bytes, few, t.0) in
          let count : length bytes / number_bytes ≡ width + rest = omega (arith, few, t.0) in
          ap host_numbers after
          ∙ ap (λ (n : ℕ). numbers_from (n / number_bytes) (stored ++ drop (number_bytes * width) bytes)) size
          ∙ stored_first rest (length bytes / number_bytes) (head_and_rows f) (drop (number_bytes * width) bytes)
          (omega (arith, written_length f, count)) (all_narrow f small few)
          ∙ ap (λ (l : List ℕ). head_and_rows f ++ l) (later_numbers width rest (length bytes / number_bytes) bytes count)
          ∙ sym (after_accepted _ f (host_numbers bytes) (read_verdict s image place (host_numbers bytes) (sym host_is_read ∙ e)))
