-- Laws of `first_of`: the first entry of a list that passes a test, and of numbers in ascending order the smallest. Assumes nothing.
use Rattle.std.specs.Prelude.{ℕ, ◌+◌, ◌-◌, ◌≤◌, ◌<◌, Bool, true, ◌⊎◌, ◌≡◌}
use Rattle.std.proofs.Math.Bridge.{le_prop}
use Rattle.std.proofs.Common.{arith, inl, inr, sym, ◌∙◌, subst}
use Rattle.std.proofs.Math.Bool.{false, Bool-set}
use mathlib.Core.List.{List, [], ◌∷◌, ◌++◌, Mem, mem-cons_self, mem-cons_of_mem, not-mem-nil, mem-append, mem-append_right, forall_mem-cons, eq-or-mem_of_mem-cons, Pairwise, Pairwise-append, rel_of_Pairwise-cons}
use Rattle.std.proofs.Math.Logic.Or
use Rattle.std.proofs.Math.Option.{none, some}
use Rattle.std.proofs.Math.Path.{refl, ap}
use Rattle.pdi_spec.specs.{Lists.numbers, Lists.first_of, Lists.First}
use Rattle.pdi_spec.proofs.Laws.{Tests.either, Tests.mem_numbers, Tests.numbers_mem, Tests.numbers_ascending, Searches.found}

pub some_not_none : {A : Type 0} {x : A} → some x ≡ none → ⊥
some_not_none e = let z : ◌≡◌ {A = ℕ} 0 1 = cc in omega arith

-- the entry that a list is split at stands in it
pub mem_split : {A : Type 0} {x : A} {xs : List A} (before after : List A) → xs ≡ before ++ (x ∷ after) → Mem x xs
mem_split before after e = rw e (mem-append_right before mem-cons_self)

module _ {A : Type 0} (test : A → Bool) where
  pub first_mem : (xs : List A) (x : A) → First test xs x → Mem x xs
  first_mem xs x t = mem_split t.before t.after t.split

  pub first_none : (xs : List A) → first_of test xs ≡ none → (x : A) → Mem x xs → test x ≡ false
  unfolding first_of
  first_none [] e = λ x m. absurd (not-mem-nil m)
  first_none (y ∷ ys) e = go (first_none ys) (either (test y))
    where
      go : (first_of test ys ≡ none → (x : A) → Mem x ys → test x ≡ false) → (test y ≡ true) ⊎ (test y ≡ false)
          → (x : A) → Mem x (y ∷ ys) → test x ≡ false
      go ih (inl h) = absurd (some_not_none (rw h at e))
      go ih (inr h) = (forall_mem-cons (λ x. Bool-set (test x) false)).1 (h, ih (rw h at e))

  pub none_first : (xs : List A) → ((x : A) → Mem x xs → test x ≡ false) → first_of test xs ≡ none
  unfolding first_of
  none_first [] h = refl
  none_first (y ∷ ys) h = rw (h y mem-cons_self) (none_first ys (λ x m. h x (mem-cons_of_mem y m)))

  pub first_some : (xs : List A) (x : A) → first_of test xs ≡ some x → First test xs x
  unfolding first_of
  first_some [] x e = absurd (some_not_none (sym e))
  first_some (y ∷ ys) x e = go (first_some ys x) (either (test y))
    where
      go : (first_of test ys ≡ some x → First test ys x) → (test y ≡ true) ⊎ (test y ≡ false) → First test (y ∷ ys) x
      go ih (inl h) =
          let q : some y ≡ some x = rw h at e in
          let r : y ≡ x = cc in
          record { before = []; after = ys; split = rw r refl; passes = rw (← r) h; none_before = λ z m. absurd (not-mem-nil m) }
      go ih (inr h) =
          let t = ih (rw h at e) in
          record {
            before = y ∷ t.before;
            after = t.after;
            split = ap (λ (l : List A). y ∷ l) t.split;
            passes = t.passes;
            none_before = (forall_mem-cons (λ z. Bool-set (test z) false)).1 (h, t.none_before);
          }

  pub split_first : (before : List A) (x : A) (after : List A) → test x ≡ true → ((e : A) → Mem e before → test e ≡ false)
      → first_of test (before ++ (x ∷ after)) ≡ some x
  unfolding first_of
  split_first [] x after h t = rw h refl
  split_first (y ∷ ys) x after h t = rw (t y mem-cons_self) (split_first ys x after h (λ e m. t e (mem-cons_of_mem y m)))

-- ---- of numbers in ascending order, the first is the smallest

module _ (test : ℕ → Bool) (a n p : ℕ) where
  pub first_smallest : First test (numbers a n) p → (e : ℕ) → a ≤ e → e < p → test e ≡ false
  first_smallest t e low h =
      let b = mem_numbers a n (first_mem test (numbers a n) p t) in
      let there = subst (λ (l : List ℕ). Mem e l) t.split (numbers_mem a n low (omega (arith, b.1))) in
      let ordered = subst (λ (l : List ℕ). Pairwise (λ (x y : ℕ). x < y) l) t.split (numbers_ascending a n) in
      let parts = (Pairwise-append (λ x y. le_prop) {l₁ = t.before}).0 ordered in
      Or.elim (Bool-set (test e) false) (mem-append.0 there) (t.none_before e)
      (λ m. Or.elim (Bool-set (test e) false) (eq-or-mem_of_mem-cons m) (λ q. absurd (omega arith))
      (λ m'. let l = rel_of_Pairwise-cons parts.1 m' in absurd (omega (arith, l))))

  pub smallest_first : Mem p (numbers a n) → test p ≡ true → ((e : ℕ) → a ≤ e → e < p → test e ≡ false)
      → first_of test (numbers a n) ≡ some p
  smallest_first m h least =
      let b = mem_numbers a n m in
      let same : a + (p - a) ≡ p = omega (arith, b.0) in
      found test a n (p - a) (λ k l. least (a + k) (omega arith) (omega arith)) (omega (arith, b.0, b.1)) (rw same h)
      ∙ ap some same
