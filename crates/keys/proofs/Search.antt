-- The search of a list for a word, one place after the other: the step, and how it ends. Assumes nothing.
use Prim.Native.Nat.{ℕ, suc, ◌+◌, ◌≤◌, ◌<◌}
use native.Mathlib.Numerals.{add-one}
use mathlib.Core.List.{List}
use mathlib.Core.Path.{◌≡◌, refl}
use lib.ListN.{length, get_or, drop, drop_of_length-le}
use lib.Seq.{drop-cons}
use borrow.Author.Tests.{eq-eqb, ne_eqb}
use Rattle.keys.specs.Places.{place_from, place_in}

-- what a search behind the first i places finds is the word's place in the whole list
abbrev pub Passed : List ℕ → ℕ → ℕ → Type 0
Passed list word i = place_from (suc i) (drop i list) word ≡ place_in list word

pub none_passed : (list : List ℕ) (word : ℕ) → Passed list word 0
unfolding place_in
none_passed list word = refl

module _ (list : List ℕ) (word i : ℕ) (passed : Passed list word i) where
  pub found : i < length list → word ≡ get_or list i 0 → i + 1 ≡ place_in list word
  unfolding place_from
  found h e = rw add-one (rw (drop-cons list i 0 h, eq-eqb _ _ e) at passed)

  pub passed_more : i < length list → (word ≡ get_or list i 0 → ⊥) → Passed list word (i + 1)
  unfolding place_from
  passed_more h e = rw add-one (rw (drop-cons list i 0 h, ne_eqb _ _ e) at passed)

  pub missing : length list ≤ i → 0 ≡ place_in list word
  unfolding place_from
  missing h = rw (drop_of_length-le list h) at passed
