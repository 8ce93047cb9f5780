-- How many of the numbers from a on pass a test: none, exactly one, or two at least. Assumes nothing.
use Rattle.std.proofs.Common.{ℕ, zero, suc, ◌+◌, ◌≤◌, ◌<◌, arith, Bool, true, false, ◌≡◌, refl, ◌∙◌, ap}
use native.Mathlib.Decide.{dec_le}
use Rattle.pdi_spec.specs.Lists.{numbers, count_of}
use Rattle.pdi_spec.proofs.Laws.Searches.{NoneOf}

module _ (test : ℕ → Bool) where
  -- a number's test, seen from the number after a
  from_next : (a k : ℕ) {t : Bool} → test (a + suc k) ≡ t → test (suc a + k) ≡ t
  from_next a k e = ap test {x = suc a + k} {y = a + suc k} (omega arith) ∙ e

  head : (a : ℕ) {t : Bool} → test (a + 0) ≡ t → test a ≡ t
  head a e = ap test {x = a} {y = a + 0} (omega arith) ∙ e

  pub count_none : (a n : ℕ) → NoneOf test a n → count_of test (numbers a n) ≡ 0
  unfolding count_of numbers
  count_none a zero none = refl
  count_none a (suc n) none =
      let rest = count_none (suc a) n (λ k l. from_next a k (none (suc k) (omega arith))) in
      rw (head a (none 0 (omega arith))) (omega (arith, rest))

  -- number i alone
  pub count_one : (a n i : ℕ) → i < n → NoneOf test a i → test (a + i) ≡ true → ((k : ℕ) → i < k → k < n → test (a + k) ≡ false)
      → count_of test (numbers a n) ≡ 1
  unfolding count_of numbers
  count_one a zero i l before here after = absurd (omega arith)
  count_one a (suc n) zero l before here after =
      let rest = count_none (suc a) n (λ k m. from_next a k (after (suc k) (omega arith) (omega arith))) in
      rw (head a here) (omega (arith, rest))
  count_one a (suc n) (suc i) l before here after =
      let rest =
      count_one (suc a) n i (omega arith) (λ k m. from_next a k (before (suc k) (omega arith))) (from_next a i here)
      (λ k h m. from_next a k (after (suc k) (omega arith) (omega arith))) in
      rw (head a (before 0 (omega arith))) (omega (arith, rest))

  count_some : (a n i : ℕ) → i < n → test (a + i) ≡ true → 1 ≤ count_of test (numbers a n)
  unfolding count_of numbers
  count_some a zero i l here = absurd (omega arith)
  count_some a (suc n) zero l here = rw (head a here) (omega arith)
  count_some a (suc n) (suc i) l here = omega (arith, count_some (suc a) n i (omega arith) (from_next a i here))

  -- numbers i and j
  pub count_two : (a n i j : ℕ) → i < j → j < n → test (a + i) ≡ true → test (a + j) ≡ true → 2 ≤ count_of test (numbers a n)
  unfolding count_of numbers
  count_two a zero i j l m here there = absurd (omega arith)
  count_two a (suc n) i zero l m here there = absurd (omega arith)
  count_two a (suc n) zero (suc j) l m here there =
      rw (head a here) (omega (arith, count_some (suc a) n j (omega arith) (from_next a j there)))
  count_two a (suc n) (suc i) (suc j) l m here there =
      omega (arith, count_two (suc a) n i j (omega arith) (omega arith) (from_next a i here) (from_next a j there))

-- what holds of the numbers from `from` up to k, and of k, holds up to k + 1
pub skipped_more : (test : ℕ → Bool) (from k : ℕ) → ((j : ℕ) → from ≤ j → j < k → test j ≡ false) → test k ≡ false
    → (j : ℕ) → from ≤ j → j < k + 1 → test j ≡ false
skipped_more test from k so e j h l = go (dec_le k j)
  where
    go : Dec (k ≤ j) → test j ≡ false
    go (yes m) = ap test {x = j} {y = k} (omega arith) ∙ e
    go (no m) = so j h (omega arith)
