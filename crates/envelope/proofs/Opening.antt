-- What `open` answers by the definition's tests, and a part that ends with its slice. Assumes nothing.
use Prim.Native.Nat.{ℕ, ◌+◌, ◌-◌, ◌<◌, ◌≤◌}
use native.Mathlib.Nat.{le_refl}
use native.Mathlib.Omega.{arith}
use mathlib.Core.List.{List}
use mathlib.Core.Logic.{◌⊎◌}
use mathlib.Core.Path.{◌≡◌, sym, ◌∙◌, ap}
use lib.ListN.{length, take, drop, length-drop, drop_of_length-le}
use lib.Seq.{take_all}
use Rattle.std.specs.Prelude.{None, Some}
use Rattle.pdi_spec.specs.Answers.{asked}
use Rattle.pdi_spec.specs.Words.{byte_at}
use Rattle.pdi_spec.specs.Envelope.{big_endian_at, envelope_head, envelope}
use Rattle.pdi_spec.specs.Limits.{longest_program_image}
use Rattle.pdi_spec.proofs.Laws.Envelope.{envelope_bad_lem, envelope_held}
use Rattle.envelope.specs.Opened.{opened_as}

-- a bad envelope
pub is_bad : (input : List ℕ)
    → (byte_at input 0 ≡ 1 → ⊥)
    ⊎ ((longest_program_image < big_endian_at input 1) ⊎ (length input ≡ envelope_head + big_endian_at input 1 → ⊥))
    → None ≡ opened_as (envelope input)
unfolding opened_as
is_bad input h = sym (ap opened_as ((envelope_bad_lem input).1 h))

-- a good one
pub is_held : (input : List ℕ) → byte_at input 0 ≡ 1 → big_endian_at input 1 ≤ longest_program_image
    → length input ≡ envelope_head + big_endian_at input 1
    → Some (asked (drop envelope_head input) (big_endian_at input 5)) ≡ opened_as (envelope input)
unfolding opened_as
is_held input v s h = sym (ap opened_as (envelope_held input v s h))

-- the part from an offset up to the end is what is left without the bytes before it
pub part_is : (l : List ℕ) (k : ℕ) → take (length l - k) (drop k l) ≡ drop k l
part_is l k = take_all (length l - k) (drop k l) (omega (arith, length-drop k l))

-- and past the end nothing is left
pub none_left : (l : List ℕ) → length l < 9 → take (length l - length l) (drop (length l) l) ≡ drop 9 l
none_left l h = part_is l (length l) ∙ drop_of_length-le l (le_refl (length l)) ∙ sym (drop_of_length-le l {i = 9} (omega arith))
