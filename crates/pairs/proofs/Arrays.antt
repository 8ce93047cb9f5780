-- A list made number by number: its length and its entries. Assumes nothing.
use Prim.Native.Nat.{ℕ, zero, suc, ◌+◌, ◌<◌}
use native.Mathlib.Omega.{arith}
use mathlib.Core.List.{map}
use mathlib.Core.Path.{◌≡◌, refl, ◌∙◌, ap}
use lib.ListN.{length, get_or}
use Rattle.pdi_spec.specs.Lists.{numbers}

module _ {A : Type 0} (f : ℕ → A) where
  pub made_length : (a n : ℕ) → length (map f (numbers a n)) ≡ n
  unfolding numbers
  made_length a zero = refl
  made_length a (suc n) = ap suc (made_length (suc a) n)

  pub made_at : (d : A) (a n i : ℕ) → i < n → get_or (map f (numbers a n)) i d ≡ f (a + i)
  unfolding numbers
  made_at d a zero i l = absurd (omega arith)
  made_at d a (suc n) zero l = ap f {x = a} {y = a + 0} (omega arith)
  made_at d a (suc n) (suc i) l = made_at d (suc a) n i (omega arith) ∙ ap f {x = suc a + i} {y = a + suc i} (omega arith)
