-- Numbers stored in a byte buffer one after another, 8 bytes each. Assumes nothing.
use Rattle.std.proofs.Common.{◌≡◌, ℕ, ◌+◌, ◌*◌, ◌≤◌, ◌<◌, List, [], ◌∷◌, ◌++◌, length, take, drop, get_or, refl, sym, ◌∙◌, ap, arith, length-take-le}
use Rattle.std.proofs.lemmas.List.{take_more}
use Rattle.std.proofs.lemmas.List.Edits.{sets, sets-eq}
use lib.Seq.{length-sets}
use mathlib.Core.List.{flat_map}
use Rattle.pdi_spec.specs.Host.{le_bytes}
use Rattle.pdi_spec.specs.Limits.{number_bytes}
use Rattle.pdi_spec.proofs.Laws.Answers.{bytes_length}
use Rattle.pdi_spec.proofs.Laws.Lists.{flat_map_more, sets_append}

abbrev pub bytes_of : List ℕ → List ℕ
bytes_of = flat_map (le_bytes number_bytes)

pub none_stored : (start : List ℕ) → start ≡ sets start 0 (bytes_of [])
unfolding flat_map
none_stored start = refl

-- a turn of the loop: `rows` has the first i numbers, and `after` the next one as well
pub next_stored : (numbers start rows after : List ℕ) (i d : ℕ) → i < length numbers
    → rows ≡ sets start 0 (bytes_of (take i numbers))
    → after ≡ sets rows (number_bytes * i) (le_bytes number_bytes (get_or numbers i d))
    → (length after ≡ length start) × (after ≡ sets start 0 (bytes_of (take (i + 1) numbers)))
next_stored numbers start rows after i d h er ea = (ap length more ∙ length-sets start 0 (bytes_of (take (i + 1) numbers)), more)
  where
    stored : length (bytes_of (take i numbers)) ≡ number_bytes * i
    stored = bytes_length (take i numbers) ∙ ap (λ (n : ℕ). number_bytes * n) (length-take-le i numbers (omega arith))

    one_more : take i numbers ++ (get_or numbers i d ∷ []) ≡ take (i + 1) numbers
    one_more = sym (take_more numbers i d h)

    more : after ≡ sets start 0 (bytes_of (take (i + 1) numbers))
    more =
        let next = le_bytes number_bytes (get_or numbers i d) in
        ea
        ∙ ap (λ (l : List ℕ). sets l (number_bytes * i) next) er
        ∙ sets_append start (bytes_of (take i numbers)) next 0 (number_bytes * i) (omega (arith, stored))
        ∙ ap (sets start 0) (sym (flat_map_more (le_bytes number_bytes) (take i numbers) (get_or numbers i d)) ∙ ap bytes_of one_more)

pub turn : (numbers start rows after : List ℕ) (i : ℕ) → i < length numbers
    → rows ≡ sets start 0 (bytes_of (take i numbers))
    → after ≡ sets rows (number_bytes * i) (le_bytes number_bytes (get_or numbers i 0))
    → after ≡ sets start 0 (bytes_of (take (i + 1) numbers))
turn numbers start rows after i h er ea = (next_stored numbers start rows after i 0 h er ea).1

-- where there is room for all of them, they come first and the rest is as it was
pub whole : (xs start : List ℕ) → number_bytes * length xs ≤ length start
    → sets start 0 (bytes_of xs) ≡ bytes_of xs ++ drop (number_bytes * length xs) start
whole xs start h =
    let size : 0 + length (bytes_of xs) ≡ number_bytes * length xs = omega (arith, bytes_length xs) in
    sets-eq (bytes_of xs) start 0 (omega arith) ∙ ap (λ (k : ℕ). bytes_of xs ++ drop k start) size
