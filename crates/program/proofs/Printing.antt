-- What the printing function leaves in a buffer that is long enough is what is printed, and an input that was read up to the buffer's
-- length prints as the whole input does. Assumes nothing.
use Rattle.std.specs.Prelude.{ℕ, ◌+◌, ◌≤◌, ◌<◌, ◌≡◌, List, Option, None, Some, IfSome, Result, Ok, Err, IfOk, is_ok, ◌++◌, length, take, ltb}
use Rattle.std.proofs.Common.{◌∙◌, ap, arith, append-nil, length-append, sym, subst, true, false, Bool, refl}
use Rattle.std.proofs.Math.Seq.{take-append_seam, take_all}
use borrow.Author.Tests.{ltb-false, ltb-true, le-ltb}
use Rattle.std.specs.Io.KnownBytes.{Consumes, IsAtEnd}
use Rattle.pdi_spec.specs.RuleList.{plain_rules}
use Rattle.pdi_spec.specs.Envelope.{envelope_head}
use Rattle.pdi_spec.specs.Limits.{longest_program_image}
use Rattle.listing.specs.Printed.{longest_input, longest_printed, printed, print_answer, print_buffer}
use Rattle.listing.proofs.Laws.Printed.{cut_printed}

-- the bytes that are counted are those that are printed
pub counted : (input out : List ℕ) → longest_printed ≤ length out → take (print_answer input out) (print_buffer input out) ≡ printed input
unfolding print_answer print_buffer
counted input out h = rw (le-ltb (length out) longest_printed h) (take-append_seam (printed input) _)

-- what a reader of known bytes gave, up to its end or to a length that is over the longest input's, prints as all of them do
pub read_prints : (before after : Option (List ℕ)) (buffer : List ℕ) (n : ℕ) (P : List ℕ → Type 0)
    → envelope_head + longest_program_image < length buffer
    → n ≤ length buffer → Consumes before after (take n buffer) → (n < length buffer → IsAtEnd after) → P (printed (take n buffer))
    → IfSome before (λ input. P (printed input))
unfolding longest_input
read_prints None after buffer n P room within given end p = tt
read_prints (Some input) None buffer n P room within given end p = absurd given
read_prints (Some input) (Some rest) buffer n P room within given end p = go (ltb n (length buffer)) refl
  where
    first : List ℕ
    first = take n buffer

    go : (t : Bool) → ltb n (length buffer) ≡ t → P (printed input)
    go true e =
        let all : input ≡ first = given ∙ ap (λ l. first ++ l) (end (ltb-true n (length buffer) e)) ∙ append-nil first in
        subst (λ l. P (printed l)) (sym all) p
    go false e =
        let size = length buffer in
        let full : first ≡ buffer = take_all n buffer (ltb-false n size e) in
        let cut : take size input ≡ buffer = ap (take size) (given ∙ ap (λ l. l ++ rest) full) ∙ take-append_seam buffer rest in
        let there : size ≤ length input = omega (arith, ap length given, ap length full, length-append first rest) in
        subst P (ap printed (full ∙ sym cut) ∙ cut_printed plain_rules input size room there) p

-- what is said of a success holds where there is one
pub on_success : {T E : Type 0} {P : T → Type 0} (r : Result T E) → true ≡ is_ok r → IfOk r P → (x : T) × P x
on_success (Ok x) e h = (x, h)
on_success (Err x) e h = absurd (cc e)

pub ruleset prints = (on_success, read_prints)
