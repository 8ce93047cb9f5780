-- Laws of lists in general, for the proofs of the other files: the entries that pass a test, lists joined, and entries stored one after
-- another. Assumes nothing.
use Rattle.std.specs.Prelude.{ℕ, zero, suc, ◌+◌, ◌*◌, ◌<◌, Bool, true, false, cond, ◌≡◌, refl, length, set, get_or}
use Rattle.std.proofs.Common.{add-one, mul-zero, mul-suc, arith, sym, ◌∙◌, ap, subst, length-append, get_or-set_same, get_or-set_other, below_more}
use mathlib.Core.List.{List, [], ◌∷◌, ◌++◌, map, flat_map, Mem, mem-cons_self, mem-cons_of_mem, mem-append, mem-append_left, mem-append_right, not-mem-nil, eq-or-mem_of_mem-cons, append_assoc, append-nil, Sublistᴰ, Pairwise, Nodup, Nodup-append, Disjoint}
use Rattle.std.proofs.Math.Logic.Or
use Rattle.std.proofs.Math.Logic.{∥∥₁_elim, ∥∥₁_map, ∥∥₁_prop}
use mathlib.Core.HLevel.{⊥_prop}
use Rattle.std.proofs.lemmas.List.Edits.{sets}
use Rattle.pdi_spec.specs.{Lists.numbers, Lists.sum_of, Lists.those}

-- the entries that pass a test are some of the list, in its order
pub those_sublist : {A : Type 0} (test : A → Bool) (xs : List A) → Sublistᴰ (those test xs) xs
unfolding those
those_sublist test [] = Sublistᴰ.slnil
those_sublist test (x ∷ xs) = go (test x) (those_sublist test xs)
  where
    go : (b : Bool) → Sublistᴰ (those test xs) xs → Sublistᴰ (cond b (x ∷ those test xs) (those test xs)) (x ∷ xs)
    go true rest = Sublistᴰ.cons-cons refl rest
    go false rest = Sublistᴰ.cons rest

module _ {A B : Type 0} (f : A → List B) where
  -- what stands in the joined lists stands in the list of some entry
  pub mem_flat_map : {y : B} (xs : List A) → Mem y (flat_map f xs) → ∥ ((x : A) × Mem x xs × Mem y (f x)) ∥₁
  unfolding flat_map
  mem_flat_map [] m = absurd (not-mem-nil m)
  mem_flat_map (x ∷ xs) m =
      Or.elim ∥∥₁_prop (mem-append.0 m) (λ here. ∣ (x, mem-cons_self, here) ∣₁)
      (λ later. ∥∥₁_map (mem_flat_map xs later) (λ r. (r.0, mem-cons_of_mem x r.1, r.2)))

  -- and the other way round
  pub flat_map_mem : {y : B} (xs : List A) {x : A} → Mem x xs → Mem y (f x) → Mem y (flat_map f xs)
  unfolding flat_map
  flat_map_mem [] m k = absurd (not-mem-nil m)
  flat_map_mem {y} (z ∷ zs) m k =
      Or.elim ∥∥₁_prop (eq-or-mem_of_mem-cons m) (λ e. mem-append_left (flat_map f zs) (subst (λ (x : A). Mem y (f x)) e k))
      (λ l. mem-append_right (f z) (flat_map_mem zs l k))

  -- lists without a repeat, no two of which share an entry, join to a list without a repeat
  pub nodup_flat_map : ((x : A) → Nodup (f x))
      → {xs : List A} → Pairwise (λ (x y : A). Disjoint (f x) (f y)) xs → Nodup (flat_map f xs)
  unfolding flat_map
  nodup_flat_map single Pairwise.nil = Pairwise.nil
  nodup_flat_map single (Pairwise.cons {a = x} {l = xs} h p) =
      Nodup-append.1 (single x, nodup_flat_map single p, apart)
    where
      apart : Disjoint (f x) (flat_map f xs)
      apart y here later = ∥∥₁_elim (mem_flat_map xs later) ⊥_prop (λ r. h r.0 r.1 y here r.2)

-- lists of one length, joined
pub flat_map_length : {A B : Type 0} (width : ℕ) (f : A → List B) → ((x : A) → length (f x) ≡ width) → (xs : List A)
    → length (flat_map f xs) ≡ width * length xs
unfolding flat_map
flat_map_length width f h [] = sym (mul-zero width)
flat_map_length width f h (x ∷ xs) =
    length-append (f x) (flat_map f xs) ∙ omega (arith, h x, flat_map_length width f h xs, mul-suc width (length xs))

-- what holds of the first i entries, and of one that is stored next, holds of the first i + 1
pub stored_more : (P : ℕ → ℕ → Type 0) (l : List ℕ) (i x : ℕ) → i < length l → ((k : ℕ) → k < i → P k (get_or l k 0)) → P i x
    → (k : ℕ) → k < i + 1 → P k (get_or (set l i x) k 0)
stored_more P l i x room before here =
    below_more (λ (k : ℕ). P k (get_or (set l i x) k 0)) i
    (λ k h. subst (P k) (sym (get_or-set_other l i k x 0 (λ e. omega arith))) (before k h))
    (subst (P i) (sym (get_or-set_same l i x 0 room)) here)

-- what is stored right behind a run is stored with it
pub sets_append : (l xs ys : List ℕ) (i k : ℕ) → k ≡ i + length xs → sets (sets l i xs) k ys ≡ sets l i (xs ++ ys)
sets_append l [] ys i k e = let z : k ≡ i = omega arith in ap (λ (j : ℕ). sets l j ys) z
sets_append l (x ∷ xs) ys i k e = sets_append (set l i x) xs ys (suc i) k (omega arith)

-- one number more, at the end
pub numbers_more : (a n : ℕ) → numbers a (suc n) ≡ numbers a n ++ ((a + n) ∷ [])
unfolding numbers
numbers_more a zero = ap (λ (x : ℕ). x ∷ []) {x = a} {y = a + 0} (omega arith)
numbers_more a (suc n) =
    ap (λ (l : List ℕ). a ∷ l)
    (numbers_more (suc a) n ∙ ap (λ (x : ℕ). numbers (suc a) n ++ (x ∷ [])) {x = suc a + n} {y = a + suc n} (omega arith))

-- a sum over numbers that follow one another, and then one more
pub sum_more : (g : ℕ → ℕ) (a n : ℕ) → sum_of (map g (numbers a (n + 1))) ≡ sum_of (map g (numbers a n)) + g (a + n)
unfolding sum_of numbers
sum_more g a n = rw (add-one n) (go a n)
  where
    go : (a n : ℕ) → sum_of (map g (numbers a (suc n))) ≡ sum_of (map g (numbers a n)) + g (a + n)
    go a zero = omega (arith, ap g {x = a + 0} {y = a} (omega arith))
    go a (suc n) = omega (arith, go (suc a) n, ap g {x = suc a + n} {y = a + suc n} (omega arith))

pub numbers_length : (a n : ℕ) → length (numbers a n) ≡ n
unfolding numbers
numbers_length a zero = refl
numbers_length a (suc n) = ap suc (numbers_length (suc a) n)

-- lists joined, one for each entry, and then one entry more
pub flat_map_more : {A B : Type 0} (f : A → List B) (xs : List A) (x : A) → flat_map f (xs ++ (x ∷ [])) ≡ flat_map f xs ++ f x
unfolding flat_map
flat_map_more f [] x = append-nil (f x)
flat_map_more f (y ∷ ys) x = ap (λ (l : List _). f y ++ l) (flat_map_more f ys x) ∙ sym (append_assoc (f y) (flat_map f ys) (f x))

pub flat_map_numbers : {B : Type 0} (f : ℕ → List B) (a n : ℕ) → flat_map f (numbers a (n + 1)) ≡ flat_map f (numbers a n) ++ f (a + n)
flat_map_numbers f a n = rw add-one (ap (flat_map f) (numbers_more a n) ∙ flat_map_more f (numbers a n) (a + n))

-- ---- what holds of every entry of a list, written out entry by entry

abbrev pub Every : {A : Type 0} → (A → Type 0) → List A → Type 0
Every P [] = Unit {0}
Every P (x ∷ xs) = P x × Every P xs

pub every_mem : {A : Type 0} (P : A → Type 0) → ((x : A) → IsProp (P x)) → (xs : List A) → Every P xs → (x : A) → Mem x xs → P x
every_mem P prop [] h x m = absurd (not-mem-nil m)
every_mem P prop (y ∷ ys) h x m =
    Or.elim (prop x) (eq-or-mem_of_mem-cons m) (λ e. subst P (sym e) h.0) (λ k. every_mem P prop ys h.1 x k)

pub every_append : {A : Type 0} (P : A → Type 0) (xs ys : List A) → Every P xs → Every P ys → Every P (xs ++ ys)
every_append P [] ys h k = k
every_append P (x ∷ xs) ys h k = (h.0, every_append P xs ys h.1 k)
