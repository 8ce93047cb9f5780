-- Text stored in a buffer, piece by piece. Assumes nothing.
use Prim.Native.Nat.{ℕ, suc, ◌+◌, ◌-◌, ◌*◌, ◌/◌, ◌%◌, ◌≤◌, ◌<◌}
use native.Mathlib.Numerals.{add-one}
use native.Mathlib.Omega.{arith}
use mathlib.Core.List.{List, [], ◌∷◌, ◌++◌}
use mathlib.Core.Path.{◌≡◌, sym, ◌∙◌, ap, ap₂}
use lib.ListN.{length, take, drop, set, get_or, length-append, length-take, length-drop, drop_of_length-le}
use lib.Seq.{sets, drop-cons, drop-drop}
use Rattle.pdi_spec.specs.Limits.{head_width, row_width}
use Rattle.pdi_spec.proofs.Laws.Lists.{sets_append}
use Rattle.listing.specs.Decimal.{digit, decimal}
use Rattle.listing.specs.Pieces.{mark, left}
use Rattle.listing.specs.Printed.{line, row_lines}
use Rattle.listing.proofs.Laws.Lines.{left_more}
use Rattle.listing.proofs.Laws.Decimal.{decimal_small, decimal_more, length_more}

-- a number of one digit
pub one_digit : (out : List ℕ) (at n : ℕ) {d : ℕ} → n < 10 → d ≡ digit n
    → (at + 1 ≡ at + length (decimal n)) × (set out at d ≡ sets out at (decimal n))
one_digit out at n h e = (
  omega (arith, ap length (decimal_small n h)),
  ap (set out at) e ∙ ap (sets out at) (sym (decimal_small n h)),
)

-- one of more: the digits of its tenth are stored, up to `last`, and then its last one
pub last_digit : (out : List ℕ) (at n : ℕ) {last d : ℕ} {after : List ℕ} → 10 ≤ n → last ≡ at + length (decimal (n / 10))
    → after ≡ sets out at (decimal (n / 10)) → d ≡ digit (n % 10)
    → (last + 1 ≡ at + length (decimal n)) × (set after last d ≡ sets out at (decimal n))
last_digit out at n {last} h el ea ed = (
  omega (arith, length_more n h),
  rw (ea, ed) (sets_append out (decimal (n / 10)) (digit (n % 10) ∷ []) at last el ∙ ap (sets out at) (sym (decimal_more n h))),
)

-- a number, and the byte after it
pub with_mark : (out : List ℕ) (at n m : ℕ) {end : ℕ} {after : List ℕ} → end ≡ at + length (decimal n) → after ≡ sets out at (decimal n)
    → (end + 1 ≡ at + (length (decimal n) + 1)) × (set after end m ≡ sets out at (decimal n ++ (m ∷ [])))
with_mark out at n m {end} ee ea = (omega arith, rw ea (sets_append out (decimal n) (m ∷ []) at end ee))

-- the byte after a number that others follow, and after the last
pub mark_space : (numbers : List ℕ) (k : ℕ) → k < length numbers → 0x20 ≡ mark (drop k numbers)
unfolding mark
mark_space numbers k h = sym (ap mark (drop-cons numbers k 0 h))

pub mark_feed : (numbers : List ℕ) (k : ℕ) → length numbers ≤ k → 0x0A ≡ mark (drop k numbers)
unfolding mark
mark_feed numbers k h = sym (ap mark (drop_of_length-le numbers h))

-- ---- by what is left: what is stored already and what is left, stored behind it, are the whole

-- where `now` has a piece, at `end`, that `out` lacks, at `at`
joined : (out piece rest : List ℕ) (at : ℕ) {end : ℕ} {now : List ℕ} → end ≡ at + length piece → now ≡ sets out at piece
    → (end + length rest ≡ at + length (piece ++ rest)) × (sets now end rest ≡ sets out at (piece ++ rest))
joined out piece rest at {end} ee en = (omega (arith, length-append piece rest), rw en (sets_append out piece rest at end ee))

-- one piece, and another behind it
pub two_pieces : (out first second : List ℕ) (at : ℕ) {middle end : ℕ} {between after : List ℕ} → middle ≡ at + length first
    → between ≡ sets out at first → end ≡ middle + length second → after ≡ sets between middle second
    → (end ≡ at + length (first ++ second)) × (after ≡ sets out at (first ++ second))
two_pieces out first second at em eb ee ea =
    let whole = joined out first second at em eb in
    (ee ∙ whole.0, ea ∙ whole.1)

-- where nothing is left, the whole is stored
pub all_stored : (whole out : List ℕ) (at : ℕ) {end : ℕ} {now rest : List ℕ} → rest ≡ [] → end + length rest ≡ at + length whole
    → sets now end rest ≡ sets out at whole → (end ≡ at + length whole) × (now ≡ sets out at whole)
all_stored whole out at e size same = (omega (arith, ap length e), rw e at same)

-- what is left of a line begins with the next number and the byte after it
left_split : (numbers : List ℕ) (i : ℕ) → i < length numbers
    → left (drop i numbers) ≡ (decimal (get_or numbers i 0) ++ (mark (drop (i + 1) numbers) ∷ [])) ++ left (drop (i + 1) numbers)
left_split numbers i h =
    ap left (drop-cons numbers i 0 h ∙ ap (λ (k : ℕ). get_or numbers i 0 ∷ drop k numbers) (sym (add-one i)))
    ∙ left_more (get_or numbers i 0) (drop (i + 1) numbers)

pub number_fits : (numbers : List ℕ) (i : ℕ) → i < length numbers
    → length (decimal (get_or numbers i 0)) + 1 ≤ length (left (drop i numbers))
number_fits numbers i h =
    let text = decimal (get_or numbers i 0) in
    let m = mark (drop (i + 1) numbers) in
    let rest = left (drop (i + 1) numbers) in
    omega (arith, ap length (left_split numbers i h), length-append (text ++ (m ∷ [])) rest, length-append text (m ∷ []))

pub none_left : (numbers : List ℕ) (i : ℕ) → length numbers ≤ i → left (drop i numbers) ≡ []
unfolding left
none_left numbers i h = ap left (drop_of_length-le numbers h)

-- one number more of a line
pub next_number : (numbers out : List ℕ) (at i : ℕ) {end m : ℕ} {now : List ℕ} → i < length numbers → m ≡ mark (drop (i + 1) numbers)
    → end ≡ at + (length (decimal (get_or numbers i 0)) + 1) → now ≡ sets out at (decimal (get_or numbers i 0) ++ (m ∷ []))
    → (end + length (left (drop (i + 1) numbers)) ≡ at + length (left (drop i numbers)))
    × (sets now end (left (drop (i + 1) numbers)) ≡ sets out at (left (drop i numbers)))
next_number numbers out at i h em ee en =
    let n = get_or numbers i 0 in
    let rest = drop (i + 1) numbers in
    let text = decimal n ++ (mark rest ∷ []) in
    let size : _ ≡ at + length text = ee ∙ ap (λ (k : ℕ). at + k) (sym (length-append (decimal n) (mark rest ∷ []))) in
    rw (left_split numbers i h) (joined out text (left rest) at size (rw em at en))

-- ---- rows

-- what starts with row p + 1, and the row's part of it as the code states it
abbrev pub from_row : ℕ → List ℕ → List ℕ
from_row p rows = drop (head_width + row_width * p) rows

abbrev pub row_size : ℕ → ℕ
row_size p = head_width + row_width * p + row_width - (head_width + row_width * p)

abbrev pub row_part : ℕ → List ℕ → List ℕ
row_part p rows = take (row_size p) (from_row p rows)

module _ (rows : List ℕ) (n p : ℕ) (h : p < n) where
  -- what is left begins with the next row's line
  rows_split : row_lines (n - p) (from_row p rows) ≡ line (row_part p rows) ++ row_lines (n - (p + 1)) (from_row (p + 1) rows)
  unfolding row_lines
  rows_split =
      let fewer : n - p ≡ suc (n - (p + 1)) = omega arith in
      let wide : row_width ≡ row_size p = omega arith in
      let on : head_width + row_width * p + row_width ≡ head_width + row_width * (p + 1) = omega arith in
      ap (λ (k : ℕ). row_lines k (from_row p rows)) fewer
      ∙ ap₂ (λ (k : ℕ) (l : List ℕ). line (take k (from_row p rows)) ++ row_lines (n - (p + 1)) l) wide
      (drop-drop row_width (head_width + row_width * p) rows ∙ ap (λ (k : ℕ). drop k rows) on)

  pub row_fits : head_width + row_width * n ≤ length rows
      → (0 < length (row_part p rows)) × (length (line (row_part p rows)) ≤ length (row_lines (n - p) (from_row p rows)))
  row_fits room = (
    omega (arith, length-take (row_size p) (from_row p rows), length-drop (head_width + row_width * p) rows),
    omega (arith, ap length rows_split, length-append (line (row_part p rows)) (row_lines (n - (p + 1)) (from_row (p + 1) rows))),
  )

  pub next_row : (out : List ℕ) (at : ℕ) {end : ℕ} {now : List ℕ} → end ≡ at + length (line (row_part p rows))
      → now ≡ sets out at (line (row_part p rows))
      → (end + length (row_lines (n - (p + 1)) (from_row (p + 1) rows)) ≡ at + length (row_lines (n - p) (from_row p rows)))
      × (sets now end (row_lines (n - (p + 1)) (from_row (p + 1) rows)) ≡ sets out at (row_lines (n - p) (from_row p rows)))
  next_row out at ee en = rw rows_split (joined out (line (row_part p rows)) (row_lines (n - (p + 1)) (from_row (p + 1) rows)) at ee en)

pub no_rows_left : (rows : List ℕ) (n p : ℕ) → n ≤ p → row_lines (n - p) (from_row p rows) ≡ []
unfolding row_lines
no_rows_left rows n p h = let none : n - p ≡ 0 = omega arith in ap (λ (k : ℕ). row_lines k (from_row p rows)) none
