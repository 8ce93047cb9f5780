-- From what read answers and leaves in its row buffer to what is printed of an image, of any question that is as Supported says. `rows` is
-- the buffer that was lent to it. Assumes nothing.
use Prim.Native.Nat.{ℕ, ◌+◌, ◌*◌, ◌≤◌}
use native.Mathlib.Omega.{arith}
use mathlib.Core.Bool.{Bool, true, false}
use mathlib.Core.List.{List, ◌++◌}
use mathlib.Core.Path.{◌≡◌, refl, sym, ◌∙◌, ap, ap₂}
use lib.Dec.{eqb}
use lib.ListN.{length, get_or, length-append}
use lib.Seq.{sets}
use borrow.Author.Tests.{eqb-true, eqb-false}
use Rattle.pdi_spec.specs.{Limits.head_width, Limits.row_width, Limits.buffer_numbers, Answers.asked, Answers.read_by, Answers.rows_by, Supported.Supported, Verdict.Rule}
use Rattle.pdi_spec.proofs.Laws.{Answers.read_length, Answers.rows_fit}
use Rattle.listing.specs.Printed.{printed_of, answer_line, buffer_lines}
use Rattle.listing.proofs.Laws.Buffers.{refused_lines, accepted_lines}
use Rattle.listing.proofs.Stores.{two_pieces}

module _ {own : List Rule} (s : Supported own) (image : List ℕ) (place : ℕ) (rows : List ℕ) (serves : buffer_numbers ≤ length rows)
    {r : ℕ} (er : r ≡ read_by own image place rows) where
  pub refused_text : (r ≡ 0 → ⊥) → printed_of own (asked image place) ≡ answer_line r
  refused_text n = refused_lines s image place rows serves (λ z. n (er ∙ z)) ∙ ap answer_line (sym er)

  pub refused_stored : (r ≡ 0 → ⊥) → (out : List ℕ) {end : ℕ} {after : List ℕ} → end ≡ length (answer_line r)
      → after ≡ sets out 0 (answer_line r)
      → (end ≡ length (printed_of own (asked image place))) × (after ≡ sets out 0 (printed_of own (asked image place)))
  refused_stored n out ee ea =
      (ee ∙ ap length (sym (refused_text n)), ea ∙ ap (sets out 0) (sym (refused_text n)))

  -- `after` is the row buffer as read left it
  module _ (z : r ≡ 0) {after : List ℕ} (ea : after ≡ rows_by own image place rows) where
    pub accepted_text : printed_of own (asked image place) ≡ answer_line r ++ buffer_lines after
    accepted_text =
        accepted_lines s image place rows serves (sym er ∙ z)
        ∙ ap₂ (λ (a : ℕ) (l : List ℕ). answer_line a ++ buffer_lines l) (sym er) (sym ea)

    pub text_sizes : length (printed_of own (asked image place)) ≡ length (answer_line r) + length (buffer_lines after)
    text_sizes = ap length accepted_text ∙ length-append (answer_line r) (buffer_lines after)

    -- the rows that the head counts lie in the buffer
    pub rows_within : head_width + row_width * get_or after 2 0 ≤ length after
    rows_within =
        let fit : head_width + row_width * get_or after 2 0 ≤ buffer_numbers = rw ea (rows_fit s image place rows (sym er ∙ z)) in
        omega (arith, fit, ap length ea, read_length s image place rows)

    -- and their lines in the text
    pub buffer_fits : (head_width + row_width * get_or after 2 0 ≤ length after)
        × (length (answer_line r) + length (buffer_lines after) ≤ length (printed_of own (asked image place)))
    buffer_fits = (rows_within, omega (arith, text_sizes))

    pub accepted_stored : (out : List ℕ) {middle end : ℕ} {between last : List ℕ} → middle ≡ length (answer_line r)
        → between ≡ sets out 0 (answer_line r) → end ≡ middle + length (buffer_lines after)
        → last ≡ sets between middle (buffer_lines after)
        → (end ≡ length (printed_of own (asked image place))) × (last ≡ sets out 0 (printed_of own (asked image place)))
    accepted_stored out em eb ee el =
        let whole = two_pieces out (answer_line r) (buffer_lines after) 0 (em ∙ omega arith) eb ee el in
        (whole.0 ∙ omega (arith, ap length accepted_text), whole.1 ∙ ap (sets out 0) (sym accepted_text))

  -- either way the first line has room
  pub answer_fits : length (answer_line r) ≤ length (printed_of own (asked image place))
  answer_fits = go (eqb r 0) refl
    where
      go : (t : Bool) → eqb r 0 ≡ t → length (answer_line r) ≤ length (printed_of own (asked image place))
      go true e = omega (arith, text_sizes (eqb-true r 0 e) refl)
      go false e = omega (arith, ap length (refused_text (eqb-false r 0 e)))
