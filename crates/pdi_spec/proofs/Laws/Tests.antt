-- Laws of the tests of Lists.antt and Ranges.antt: what a passed or failed test tells, and how to pass one. Assumes nothing.
use Rattle.std.specs.Prelude.{ℕ, zero, suc, ◌+◌, ◌≤◌, ◌<◌, min, max, Bool, ◌&&◌, ◌||◌, not, ◌⊎◌, ◌≡◌, leb, ltb, eqb, get_or}
use Rattle.std.proofs.Common.{arith, true≢false, inl, inr, sym, ◌∙◌, ap, ltb-true, leb-true, eqb-true, lt-ltb, le-leb, eq-eqb}
use Rattle.std.proofs.Math.Decide.{dec_le}
use Rattle.std.proofs.Math.Bool.{true, false, Bool-set, and-eq-true_iff}
use Rattle.std.proofs.lemmas.Bool.{false≢true, not-false}
use mathlib.Core.List.Memᴰ
use mathlib.Core.List.Sublistᴰ
use mathlib.Core.List.{List, [], ◌∷◌, Mem, Memᴰ, mem-cons_of_mem, not-mem-nil, singleton-sublist, Sublist, cons≢nil, Pairwise}
use mathlib.Core.HLevel.{×_prop}
use Rattle.std.proofs.Math.Logic.{⊎_elim, ∥∥₁_elim, ∥∥₁_map}
use Rattle.std.proofs.Math.Bridge.{le_prop}
use Rattle.std.proofs.Math.Path.{refl}
use Rattle.pdi_spec.specs.{Lists.numbers, Lists.any_true, Lists.any_of, Lists.any_pair, Ranges.Range, Ranges.end_of, Ranges.within, Ranges.overlap}

-- ---- Boolean tests

pub or_left : (a b : Bool) → (a || b) ≡ false → a ≡ false
or_left true b e = e
or_left false b e = refl

pub or_right : (a b : Bool) → (a || b) ≡ false → b ≡ false
or_right true b e = absurd (true≢false e)
or_right false b e = e

pub or_both : (a b : Bool) → a ≡ false → b ≡ false → (a || b) ≡ false
or_both true b e h = e
or_both false b e h = h

pub or_cases : (a b : Bool) → (a || b) ≡ true → (a ≡ true) ⊎ (b ≡ true)
or_cases true b e = inl refl
or_cases false b e = inr e

pub or_inl : (a b : Bool) → a ≡ true → (a || b) ≡ true
or_inl true b e = refl
or_inl false b e = absurd (false≢true e)

pub or_inr : (a b : Bool) → b ≡ true → (a || b) ≡ true
or_inr true b e = refl
or_inr false b e = e

pub and_left : (a b : Bool) → (a && b) ≡ true → a ≡ true
and_left true b e = refl
and_left false b e = e

pub and_right : (a b : Bool) → (a && b) ≡ true → b ≡ true
and_right true b e = e
and_right false b e = absurd (false≢true e)

pub and_both : (a b : Bool) → a ≡ true → b ≡ true → (a && b) ≡ true
and_both true b e h = h
and_both false b e h = e

pub is_not_true : (a : Bool) → (a ≡ true → ⊥) → a ≡ false
is_not_true true h = absurd (h refl)
is_not_true false h = refl

pub never_both : {a : Bool} → a ≡ true → a ≡ false → ⊥
never_both p q = true≢false (sym p ∙ q)

-- a test of difference that fails
pub equal_told : (a b : ℕ) → not (eqb a b) ≡ false → a ≡ b
equal_told a b e = eqb-true a b (not-false (eqb a b) e)

pub equal_tells : (a b : ℕ) → a ≡ b → not (eqb a b) ≡ false
equal_tells a b e = ap not (eq-eqb a b e)

-- a test is true or false
pub either : (a : Bool) → (a ≡ true) ⊎ (a ≡ false)
either true = inl refl
either false = inr refl

-- where none of the tests is true, the one at any index is false
pub false_at : (tests : List Bool) → any_true tests ≡ false → (i : ℕ) → get_or tests i false ≡ false
unfolding any_true
false_at [] e i = refl
false_at (b ∷ tests) e zero = or_left b (any_true tests) e
false_at (b ∷ tests) e (suc i) = false_at tests (or_right b (any_true tests) e) i

-- ---- numbers from .. on

pub mem_numbers : {x : ℕ} (a n : ℕ) → Mem x (numbers a n) → (a ≤ x) × (x < a + n)
unfolding numbers
mem_numbers a zero m = absurd (not-mem-nil m)
mem_numbers {x} a (suc n) m = ∥∥₁_elim m (×_prop le_prop le_prop) (λ d. go (mem_numbers (suc a) n) (Memᴰ.cases_cons d))
  where
    go : (Mem x (numbers (suc a) n) → (suc a ≤ x) × (x < suc a + n)) → (x ≡ a) ⊎ Memᴰ x (numbers (suc a) n)
        → (a ≤ x) × (x < a + suc n)
    go ih (inl e) = (omega arith, omega arith)
    go ih (inr d) = let h = ih ∣ d ∣₁ in (omega (arith, h.0), omega (arith, h.1))

pub numbers_mem : {x : ℕ} (a n : ℕ) → a ≤ x → x < a + n → Mem x (numbers a n)
unfolding numbers
numbers_mem a zero h k = absurd (omega arith)
numbers_mem {x} a (suc n) h k = go (λ l. numbers_mem (suc a) n l (omega arith)) (dec_le (suc a) x)
  where
    go : (suc a ≤ x → Mem x (numbers (suc a) n)) → Dec (suc a ≤ x) → Mem x (a ∷ numbers (suc a) n)
    go ih (yes l) = mem-cons_of_mem a (ih l)
    go ih (no l) = let e : x ≡ a = omega arith in ∣ Memᴰ.head e ∣₁

pub numbers_ascending : (a n : ℕ) → Pairwise (λ (x y : ℕ). x < y) (numbers a n)
unfolding numbers
numbers_ascending a zero = Pairwise.nil
numbers_ascending a (suc n) = Pairwise.cons (λ x m. (mem_numbers (suc a) n m).0) (numbers_ascending (suc a) n)

-- ---- some entry of a list passes a test

module _ {A : Type 0} where
  pub any_entry : (test : A → Bool) (xs : List A) → any_of test xs ≡ true → (x : A) × Mem x xs × (test x ≡ true)
  unfolding any_of
  any_entry test [] e = absurd (false≢true e)
  any_entry test (x ∷ xs) e = go (any_entry test xs) (or_cases (test x) (any_of test xs) e)
    where
      go : (any_of test xs ≡ true → (y : A) × Mem y xs × (test y ≡ true)) → (test x ≡ true) ⊎ (any_of test xs ≡ true)
          → (y : A) × Mem y (x ∷ xs) × (test y ≡ true)
      go ih (inl h) = (x, ∣ Memᴰ.head refl ∣₁, h)
      go ih (inr h) = let r = ih h in (r.0, mem-cons_of_mem x r.1, r.2)

  pub entry_any : (test : A → Bool) {x : A} (xs : List A) → Mem x xs → test x ≡ true → any_of test xs ≡ true
  unfolding any_of
  entry_any test [] m h = absurd (not-mem-nil m)
  entry_any test {x} (y ∷ ys) m h =
      ∥∥₁_elim m (Bool-set (any_of test (y ∷ ys)) true)
      (λ d. ⊎_elim (λ e. or_inl (test y) (any_of test ys) (ap test (sym e) ∙ h))
      (λ d'. or_inr (test y) (any_of test ys) (entry_any test ys ∣ d' ∣₁ h)) (Memᴰ.cases_cons d))

  pub none_entry : (test : A → Bool) {x : A} (xs : List A) → any_of test xs ≡ false → Mem x xs → test x ≡ false
  none_entry test {x} xs e m = is_not_true (test x) (λ h. never_both (entry_any test xs m h) e)

  pub entry_none : (test : A → Bool) (xs : List A) → ((x : A) → Mem x xs → test x ≡ false) → any_of test xs ≡ false
  entry_none test xs h = is_not_true (any_of test xs) (λ e. let r = any_entry test xs e in never_both r.2 (h r.0 r.1))

  -- some two entries do: the earlier one first
  pub pair_entries : (test : A → A → Bool) (xs : List A) → any_pair test xs ≡ true
      → (x : A) × (y : A) × Sublist (x ∷ y ∷ []) xs × (test x y ≡ true)
  unfolding any_pair
  pair_entries test [] e = absurd (false≢true e)
  pair_entries test (x ∷ xs) e = go (pair_entries test xs) (or_cases (any_of (test x) xs) (any_pair test xs) e)
    where
      go : (any_pair test xs ≡ true → (u : A) × (v : A) × Sublist (u ∷ v ∷ []) xs × (test u v ≡ true))
          → (any_of (test x) xs ≡ true) ⊎ (any_pair test xs ≡ true)
          → (u : A) × (v : A) × Sublist (u ∷ v ∷ []) (x ∷ xs) × (test u v ≡ true)
      go ih (inl h) =
          let r = any_entry (test x) xs h in
          (x, r.0, ∥∥₁_map (singleton-sublist.1 r.1) (λ s. Sublistᴰ.cons-cons refl s), r.2)
      go ih (inr h) = let r = ih h in (r.0, r.1, ∥∥₁_map r.2 (λ s. Sublistᴰ.cons s), r.3)

  pub entries_pair : (test : A → A → Bool) {x y : A} (xs : List A) → Sublist (x ∷ y ∷ []) xs → test x y ≡ true → any_pair test xs ≡ true
  unfolding any_pair
  entries_pair test {x} {y} [] s h = ∥∥₁_elim s (Bool-set false true) (λ d. absurd (cons≢nil (Sublistᴰ.eq-nil d)))
  entries_pair test {x} {y} (z ∷ zs) s h =
      ∥∥₁_elim s (Bool-set (any_pair test (z ∷ zs)) true)
      (λ d. ⊎_elim (λ d'. or_inr (any_of (test z) zs) (any_pair test zs) (entries_pair test zs ∣ d' ∣₁ h))
      (λ k. or_inl (any_of (test z) zs) (any_pair test zs)
      (entry_any (test z) zs (singleton-sublist.0 ∣ k.1 ∣₁) (ap (λ (w : A). test w y) (sym k.0) ∙ h)))
      (Sublistᴰ.cases_cons-cons d))

-- ---- ranges

pub within_bounds : (r : Range) (x : ℕ) → within r x ≡ true → (r.start ≤ x) × (x < r.start + r.size)
unfolding within end_of
within_bounds r x e =
    let both = (and-eq-true_iff (leb r.start x) (ltb x (r.start + r.size))).0 e in
    (leb-true r.start x both.0, ltb-true x (r.start + r.size) both.1)

pub bounds_within : (r : Range) (x : ℕ) → r.start ≤ x → x < r.start + r.size → within r x ≡ true
unfolding within end_of
bounds_within r x low high =
    (and-eq-true_iff (leb r.start x) (ltb x (r.start + r.size))).1 (le-leb r.start x low, lt-ltb x (r.start + r.size) high)

-- two ranges overlap exactly where a number lies in both
pub overlap_shared : (a b : Range) → overlap a b ≡ true → (x : ℕ) × (within a x ≡ true) × (within b x ≡ true)
unfolding overlap end_of
overlap_shared a b e =
    let h = ltb-true (max a.start b.start) (min (a.start + a.size) (b.start + b.size)) e in
    let x = max a.start b.start in
    (x, bounds_within a x (omega arith) (omega (arith, h)), bounds_within b x (omega arith) (omega (arith, h)))

pub shared_overlap : (a b : Range) (x : ℕ) → within a x ≡ true → within b x ≡ true → overlap a b ≡ true
unfolding overlap end_of
shared_overlap a b x p q =
    let h = within_bounds a x p in
    let k = within_bounds b x q in
    lt-ltb (max a.start b.start) (min (a.start + a.size) (b.start + b.size)) (omega (arith, h.0, h.1, k.0, k.1))

-- so it is the same either way round, and a number of one is not in the other where they do not overlap
pub overlap_turned : (a b : Range) → overlap a b ≡ true → overlap b a ≡ true
overlap_turned a b e = let r = overlap_shared a b e in shared_overlap b a r.0 r.2 r.1

pub apart : (a b : Range) → overlap a b ≡ false → (x : ℕ) → within a x ≡ true → within b x ≡ false
apart a b e x p = is_not_true (within b x) (λ q. never_both (shared_overlap a b x p q) e)
