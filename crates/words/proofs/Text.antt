-- Four bytes are those of a text just where the two words are the same. Assumes nothing.
use Rattle.std.proofs.Common.{◌≡◌, ℕ, suc, ◌+◌, ◌*◌, ◌<◌, Bool, true, false, ◌&&◌, eqb, List, [], ◌∷◌, length, get_or, refl, add-one, arith, eq-eqb, ne_eqb, eqb-true}
use native.Mathlib.Numerals.{add-two, add-three}
use mathlib.Core.Bool.{and-true}
use borrow.Author.Tests.{eqb-false}
use Rattle.std.specs.Int.{w32, from_le_bytes}
use Rattle.pdi_spec.specs.Words.{byte_at, word_at, spells}

-- two numbers are equal just where their lowest bytes and the rests are
lowest : (x X a A : ℕ) → x < 256 → a < 256 → eqb (x + 256 * X) (a + 256 * A) ≡ (eqb x a && eqb X A)
lowest x X a A hx ha = go (eqb x a) (eqb X A) refl refl
  where
    go : (p q : Bool) → eqb x a ≡ p → eqb X A ≡ q → eqb (x + 256 * X) (a + 256 * A) ≡ (p && q)
    go true true e f = eq-eqb (x + 256 * X) (a + 256 * A) (omega (arith, eqb-true x a e, eqb-true X A f))
    go true false e f = ne_eqb (x + 256 * X) (a + 256 * A) (λ h. eqb-false X A f (omega arith))
    go false q e f = ne_eqb (x + 256 * X) (a + 256 * A) (λ h. eqb-false x a e (omega arith))

module _ (s : List ℕ) (at : ℕ) (below : (i : ℕ) → get_or s i 0 < 256) where
  word_bytes : word_at s at ≡ byte_at s at + 256 * (byte_at s (suc at) + 256 * (byte_at s (suc (suc at)) + 256 * byte_at s (suc (suc (suc at)))))
  unfolding word_at
  word_bytes = rw (add-one at, add-two at, add-three at) (omega arith)

  pub spells_word : (text : List ℕ) → length text ≡ 4 → ((i : ℕ) → get_or text i 0 < 256)
      → eqb (word_at s at) (from_le_bytes w32 text) ≡ spells s at text
  unfolding spells byte_at
  spells_word [] e h = absurd (omega arith)
  spells_word (a ∷ []) e h = absurd (omega arith)
  spells_word (a ∷ b ∷ []) e h = absurd (omega arith)
  spells_word (a ∷ b ∷ c ∷ []) e h = absurd (omega arith)
  spells_word (a ∷ b ∷ c ∷ d ∷ []) e h =
      let word : from_le_bytes w32 (a ∷ b ∷ c ∷ d ∷ []) ≡ a + 256 * (b + 256 * (c + 256 * d)) = omega arith in
      rw (word_bytes, word)
      (rw (lowest _ _ _ _ (below _) (h 0), lowest _ _ _ _ (below _) (h 1), lowest _ _ _ _ (below _) (h 2), and-true))
  spells_word (a ∷ b ∷ c ∷ d ∷ x ∷ text) e h = absurd (omega arith)
