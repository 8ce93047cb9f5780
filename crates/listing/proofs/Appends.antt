-- A text that grows by pieces: what it is with what is left behind it, and that each piece has room. Assumes nothing.
use Rattle.std.proofs.Common.{ℕ, zero, suc, ◌+◌, ◌-◌, ◌*◌, ◌≤◌, ◌<◌, ◌≡◌, List, [], ◌∷◌, ◌++◌, refl, append_assoc, append-nil, add-one, ap, ap₂, take_at, drop_at, ◌∙◌, sym, arith, length, take, drop, get_or, length-append, length-drop}
use lib.Seq.{take_all}
use Rattle.listing.specs.Decimal.{decimal}
use Rattle.pdi_spec.specs.Limits.{head_width, row_width}
use Rattle.listing.specs.Printed.{space, line_feed, line, row_lines, buffer_lines}
use Rattle.listing.proofs.Laws.Lines.{after, line_first, after_more, after_none}

-- a text with a piece and a rest behind it has room for the piece, and with the piece appended it needs only the rest
pub fits : (text piece rest all : List ℕ) {most : ℕ} → text ++ (piece ++ rest) ≡ all → length all ≤ most
    → length text + length piece ≤ most
fits text piece rest all e h = omega (arith, ap length e, length-append text (piece ++ rest), length-append piece rest)

pub appended : (text piece rest all : List ℕ) {more : List ℕ} → text ++ (piece ++ rest) ≡ all → more ≡ text ++ piece → more ++ rest ≡ all
appended text piece rest all e em = rw em (append_assoc text piece rest ∙ e)

-- what the requirement of room says of both together
pub whole : (text piece : List ℕ) {most : ℕ} → length text + length piece ≤ most → length (text ++ piece) ≤ most
whole text piece h = omega (arith, length-append text piece)

pub alone : {before text more : List ℕ} → before ≡ [] → more ≡ before ++ text → more ≡ text
alone {before} {text} eb em = em ∙ ap (λ (l : List ℕ). l ++ text) eb

-- ---- a line, whose first number is followed by those of `rest`

module _ (numbers text : List ℕ) (some : 0 < length numbers) where
  pub first_fits : {most : ℕ} → length text + length (line numbers) ≤ most → length text + length (decimal (get_or numbers 0 0)) ≤ most
  first_fits h = omega (arith, ap length (line_first numbers some), length-append (decimal (get_or numbers 0 0)) (after (drop 1 numbers)))

  pub first_appended : {more : List ℕ} → more ≡ text ++ decimal (get_or numbers 0 0)
      → more ++ after (take (length numbers - 1) (drop 1 numbers)) ≡ text ++ line numbers
  first_appended em =
      let rest : take (length numbers - 1) (drop 1 numbers) ≡ drop 1 numbers =
      take_all (length numbers - 1) (drop 1 numbers) (omega (arith, length-drop 1 numbers)) in
      appended text (decimal (get_or numbers 0 0)) _ _ (ap (λ (l : List ℕ). text ++ (decimal (get_or numbers 0 0) ++ after l)) rest
      ∙ ap (λ (l : List ℕ). text ++ l) (sym (line_first numbers some))) em

-- behind a number that is not the last
module _ (text rest all : List ℕ) (i : ℕ) (more : i < length rest) (e : text ++ after (drop i rest) ≡ all) where
  abbrev number : List ℕ
  number = decimal (get_or rest i 0)

  split : text ++ ((space ∷ []) ++ (number ++ after (drop (i + 1) rest))) ≡ all
  split = ap (λ (l : List ℕ). text ++ l) (sym (after_more rest i more)) ∙ e

  pub space_fits : {most : ℕ} → length all ≤ most → length text + 1 ≤ most
  space_fits h = fits text (space ∷ []) _ all split h

  pub number_fits : {most : ℕ} {spaced : List ℕ} → length all ≤ most → spaced ≡ text ++ (space ∷ [])
      → length spaced + length (decimal (get_or rest i 0)) ≤ most
  number_fits {most} {spaced} h es = fits spaced number _ all (appended text (space ∷ []) _ all split es) h

  pub number_appended : {spaced last : List ℕ} → spaced ≡ text ++ (space ∷ []) → last ≡ spaced ++ decimal (get_or rest i 0)
      → last ++ after (drop (i + 1) rest) ≡ all
  number_appended {spaced} es el = appended spaced number _ all (appended text (space ∷ []) _ all split es) el

-- and behind the last one
module _ (text rest all : List ℕ) (i : ℕ) (none : length rest ≤ i) (e : text ++ after (drop i rest) ≡ all) where
  ended : text ++ (line_feed ∷ []) ≡ all
  ended = ap (λ (l : List ℕ). text ++ l) (sym (after_none rest i none)) ∙ e

  pub feed_fits : {most : ℕ} → length all ≤ most → length text + 1 ≤ most
  feed_fits h = omega (arith, ap length ended, length-append text (line_feed ∷ []))

  pub line_ended : {last : List ℕ} → last ≡ text ++ (line_feed ∷ []) → last ≡ all
  line_ended el = el ∙ ended

-- ---- the head's line, and those of the rows, the next of which is the first of those that are left

pub head_split : (text rows head rest : List ℕ) → head ≡ take head_width rows → rest ≡ drop head_width rows
    → text ++ (line head ++ row_lines (get_or rows 2 0) rest) ≡ text ++ buffer_lines rows
unfolding buffer_lines
head_split text rows head rest eh er = rw (eh, er) refl

pub row_split : (text rest all row others : List ℕ) (n left : ℕ) → text ++ row_lines n rest ≡ all → left + 1 ≡ n → rest ≡ row ++ others
    → length row ≡ row_width → text ++ (line row ++ row_lines left others) ≡ all
unfolding row_lines
row_split text rest all row others n left e en er wide =
    let next : row_lines n rest ≡ line row ++ row_lines left others =
    ap₂ row_lines (sym en ∙ add-one left) er
    ∙ ap₂ (λ (x y : List ℕ). line x ++ row_lines left y) (take_at row others row_width wide) (drop_at row others row_width wide) in
    ap (λ (l : List ℕ). text ++ l) (sym next) ∙ e

-- none is left where the numbers that are left have no room for one
pub no_rows : (text rest all : List ℕ) (n : ℕ) → text ++ row_lines n rest ≡ all → row_width * n ≤ length rest
    → (0 < n → length rest < row_width) → text ≡ all
unfolding row_lines
no_rows text rest all zero e enough none = sym (append-nil text) ∙ e
no_rows text rest all (suc n) e enough none = let short = none (omega arith) in absurd (omega arith)
