-- Searches as loops make them: among the numbers from `a` on, and among a list's entries by their index. A loop keeps `NoneOf`, that
-- what it has passed fails the test; these laws say what it then answers. Assumes nothing.
use Prim.Native.Nat.{ℕ, zero, suc, ◌+◌, ◌<◌}
use native.Mathlib.Omega.{arith}
use Rattle.std.specs.Prelude.{Bool, false, ◌≡◌, length, get_or}
use Rattle.std.proofs.Math.Bool.{true}
use mathlib.Core.List.{List, [], ◌∷◌}
use Rattle.std.proofs.Math.Option.{none, some}
use Rattle.std.proofs.Math.Path.{refl, ap}
use Rattle.std.proofs.Common.{◌∙◌, below_more}
use Rattle.pdi_spec.specs.{Lists.numbers, Lists.first_of, Lists.any_of, Lists.any_pair}
use Rattle.pdi_spec.proofs.Laws.{Tests.or_both, Tests.or_inl, Tests.or_inr, Tests.numbers_mem, Tests.entry_any}

-- ---- among numbers

module _ (test : ℕ → Bool) where
  -- the first i numbers from a on fail the test
  abbrev pub NoneOf : ℕ → ℕ → Type 0
  NoneOf a i = (k : ℕ) → k < i → test (a + k) ≡ false

  pub none_yet : (a : ℕ) → NoneOf a 0
  none_yet a k h = absurd (omega arith)

  pub one_more : (a i : ℕ) → NoneOf a i → test (a + i) ≡ false → NoneOf a (i + 1)
  one_more a i so e = below_more _ _ so e

  -- the same from the next number on
  later : (a n : ℕ) → NoneOf a (suc n) → NoneOf (suc a) n
  later a n so k h = ap test {x = suc a + k} {y = a + suc k} (omega arith) ∙ so (suc k) (omega arith)

  head : (a n : ℕ) → NoneOf a (suc n) → test a ≡ false
  head a n so = ap test {x = a} {y = a + 0} (omega arith) ∙ so 0 (omega arith)

  pub found : (a n i : ℕ) → NoneOf a i → i < n → test (a + i) ≡ true → first_of test (numbers a n) ≡ some (a + i)
  unfolding first_of numbers
  found a zero i so l e = absurd (omega arith)
  found a (suc n) zero so l e =
      let h : test a ≡ true = ap test {x = a} {y = a + 0} (omega arith) ∙ e in
      rw h (ap some {x = a} {y = a + 0} (omega arith))
  found a (suc n) (suc i) so l e =
      let same : suc a + i ≡ a + suc i = omega arith in
      let rest = found (suc a) n i (later a i so) (omega arith) (ap test same ∙ e) in
      rw (head a i so) (rest ∙ ap some same)

  pub not_found : (a n : ℕ) → NoneOf a n → first_of test (numbers a n) ≡ none
  unfolding first_of numbers
  not_found a zero so = refl
  not_found a (suc n) so = rw (head a n so) (not_found (suc a) n (later a n so))

  pub any_found : (a n i : ℕ) → i < n → test (a + i) ≡ true → any_of test (numbers a n) ≡ true
  any_found a n i l e = entry_any test (numbers a n) (numbers_mem a n (omega arith) (omega arith)) e

  pub any_none : (a n : ℕ) → NoneOf a n → any_of test (numbers a n) ≡ false
  unfolding any_of numbers
  any_none a zero so = refl
  any_none a (suc n) so = or_both (test a) _ (head a n so) (any_none (suc a) n (later a n so))

-- ---- among a list's entries, by their index

module _ {A : Type 0} (d : A) where
  pub entry_found : (test : A → Bool) (xs : List A) (i : ℕ) → i < length xs → test (get_or xs i d) ≡ true → any_of test xs ≡ true
  unfolding any_of
  entry_found test [] i l e = absurd (omega arith)
  entry_found test (x ∷ xs) zero l e = or_inl (test x) _ e
  entry_found test (x ∷ xs) (suc i) l e = or_inr (test x) _ (entry_found test xs i (omega arith) e)

  pub no_entry : (test : A → Bool) (xs : List A) → ((i : ℕ) → i < length xs → test (get_or xs i d) ≡ false) → any_of test xs ≡ false
  unfolding any_of
  no_entry test [] h = refl
  no_entry test (x ∷ xs) h = or_both (test x) _ (h 0 (omega arith)) (no_entry test xs (λ i l. h (suc i) (omega arith)))

  pub pair_found : (test : A → A → Bool) (xs : List A) (i j : ℕ) → i < j → j < length xs
      → test (get_or xs i d) (get_or xs j d) ≡ true → any_pair test xs ≡ true
  unfolding any_pair
  pair_found test [] i j l m e = absurd (omega arith)
  pair_found test (x ∷ xs) i zero l m e = absurd (omega arith)
  pair_found test (x ∷ xs) zero (suc j) l m e = or_inl (any_of (test x) xs) _ (entry_found (test x) xs j (omega arith) e)
  pair_found test (x ∷ xs) (suc i) (suc j) l m e =
      or_inr (any_of (test x) xs) _ (pair_found test xs i j (omega arith) (omega arith) e)

  pub no_pair : (test : A → A → Bool) (xs : List A)
      → ((i j : ℕ) → i < j → j < length xs → test (get_or xs i d) (get_or xs j d) ≡ false) → any_pair test xs ≡ false
  unfolding any_pair
  no_pair test [] h = refl
  no_pair test (x ∷ xs) h =
      or_both (any_of (test x) xs) _ (no_entry (test x) xs (λ j l. h 0 (suc j) (omega arith) (omega arith)))
      (no_pair test xs (λ i j l m. h (suc i) (suc j) (omega arith) (omega arith)))
