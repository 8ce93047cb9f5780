-- The checksum of no word, and a run's with one word more. Assumes nothing.
use Rattle.std.proofs.Common.{◌≡◌, ℕ, ◌+◌, ◌*◌, ◌%◌, ◌^◌, List, zero-add, refl}
use native.Mathlib.Nat.{mod-add-mod}
use Rattle.pdi_spec.proofs.Laws.Lists.{sum_more}
use Rattle.pdi_spec.specs.Lists.{numbers, sum_of}
use Rattle.pdi_spec.specs.Words.{word_at, run, checksum}

module _ (s : List ℕ) (at : ℕ) where
  pub checksum_none : checksum s at 0 ≡ 0
  unfolding checksum run numbers sum_of
  checksum_none = refl

  pub checksum_more : (n : ℕ) → checksum s at (n + 1) ≡ (checksum s at n + word_at s (at + 4 * n)) % 2 ^ 32
  unfolding checksum run
  checksum_more n = rw (sum_more (λ (i : ℕ). word_at s (at + 4 * i)) 0 n, zero-add, mod-add-mod)
