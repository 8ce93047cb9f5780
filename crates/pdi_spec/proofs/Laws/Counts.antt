-- Laws of counts: where no two ranges overlap and none is past a limit, the numbers below the limit that lie in one are as many as the
-- ranges' sizes together; and they are never more than the limit. Assumes nothing.
use Rattle.std.specs.Prelude.{ℕ, zero, suc, ◌+◌, ◌-◌, ◌≤◌, ◌<◌, min, Bool, true, false, cond, ◌&&◌, ◌||◌, ◌≡◌, refl, leb, ltb}
use Rattle.std.proofs.Common.{arith, add-zero, ap, ltb-true, ltb-false, leb-true, leb-false}
use mathlib.Core.List.{List, [], ◌∷◌, map, Mem, mem-cons_self, mem-cons_of_mem}
use Rattle.pdi_spec.specs.{Lists.numbers, Lists.sum_of, Lists.any_of, Lists.any_pair, Lists.count_of, Ranges.Range, Ranges.end_of, Ranges.within, Ranges.overlap, Ranges.past}
use Rattle.pdi_spec.proofs.Laws.{Tests.or_left, Tests.or_right, Tests.none_entry, Tests.entry_none, Tests.apart}

-- ---- counts

-- a test that nothing passes counts nothing
count_nothing : (xs : List ℕ) → count_of (λ (x : ℕ). false) xs ≡ 0
unfolding count_of
count_nothing [] = refl
count_nothing (x ∷ xs) = omega (arith, count_nothing xs)

-- of two tests that no number passes both, one or the other counts as much as the two together
count_either : (t u : ℕ → Bool) (xs : List ℕ) → ((x : ℕ) → t x ≡ true → u x ≡ false)
    → count_of (λ (x : ℕ). t x || u x) xs ≡ count_of t xs + count_of u xs
unfolding count_of
count_either t u [] h = omega arith
count_either t u (x ∷ xs) h = omega (arith, count_either t u xs h, go (t x) (u x) (h x))
  where
    go : (a b : Bool) → (a ≡ true → b ≡ false) → cond (a || b) 1 0 ≡ cond a 1 0 + cond b 1 0
    go true b e = rw (e refl) refl
    go false b e = omega arith

-- a count is at most the number of numbers
pub count_at_most : (test : ℕ → Bool) (a n : ℕ) → count_of test (numbers a n) ≤ n
unfolding count_of numbers
count_at_most test a zero = omega arith
count_at_most test a (suc n) = omega (arith, count_at_most test (suc a) n, go (test a))
  where
    go : (b : Bool) → cond b 1 0 ≤ 1
    go true = omega arith
    go false = omega arith

-- ---- one range

-- how many of the range's numbers are below x
below : Range → ℕ → ℕ
below r x = min x (end_of r) - r.start

-- those below x + 1 are those below x, and x itself where it lies in the range
below_next : (r : Range) (x : ℕ) → cond (within r x) 1 0 + below r x ≡ below r (suc x)
unfolding within below
below_next r x = go (leb r.start x) (ltb x (end_of r)) refl refl
  where
    go : (low high : Bool) → leb r.start x ≡ low → ltb x (end_of r) ≡ high
        → cond (low && high) 1 0 + below r x ≡ below r (suc x)
    go false high l h = omega (arith, leb-false)
    go true false l h = omega (arith, ltb-false)
    go true true l h = omega (arith, leb-true, ltb-true)

-- so the n numbers from a on hold those below a + n that are not below a
below_count : (r : Range) (a n : ℕ) → count_of (within r) (numbers a n) + below r a ≡ below r (a + n)
unfolding count_of numbers
below_count r a zero = rw add-zero (omega arith)
below_count r a (suc n) =
    let same : a + suc n ≡ suc a + n = omega arith in
    rw same (omega (arith, below_next r a, below_count r (suc a) n))

-- where the range lies among them, they hold all of it
pub range_count : (r : Range) (a n : ℕ) → a ≤ r.start → end_of r ≤ a + n → count_of (within r) (numbers a n) ≡ r.size
unfolding end_of below
range_count r a n low high = omega (arith, below_count r a n)

-- so do the numbers below a limit that it is not past
within_size : (r : Range) (limit : ℕ) → past limit r ≡ false → count_of (within r) (numbers 0 limit) ≡ r.size
unfolding past
within_size r limit e = range_count r 0 limit (omega arith) (omega (arith, ltb-false))

-- tests that agree on numbers that follow one another count the same
pub count_same : (t u : ℕ → Bool) (a n : ℕ) → ((x : ℕ) → a ≤ x → x < a + n → t x ≡ u x)
    → count_of t (numbers a n) ≡ count_of u (numbers a n)
unfolding count_of numbers
count_same t u a zero h = refl
count_same t u a (suc n) h =
    let first = ap {B = ℕ} (λ (b : Bool). cond b 1 0) (h a (omega arith) (omega arith)) in
    omega (arith, first, count_same t u (suc a) n (λ x low high. h x (omega arith) (omega arith)))

-- ---- many ranges

-- ranges of which no two overlap, none past a limit: the numbers below it that lie in one are as many as their sizes together
pub counted : (limit : ℕ) (rs : List Range) → any_pair overlap rs ≡ false → ((r : Range) → Mem r rs → past limit r ≡ false)
    → count_of (λ (x : ℕ). any_of (λ (r : Range). within r x) rs) (numbers 0 limit) ≡ sum_of (map (λ (r : Range). r.size) rs)
unfolding any_of any_pair sum_of
counted limit [] e h = count_nothing (numbers 0 limit)
counted limit (r ∷ rs) e h =
    let head = within_size r limit (h r mem-cons_self) in
    let rest = counted limit rs (or_right (any_of (overlap r) rs) (any_pair overlap rs) e) (λ q m. h q (mem-cons_of_mem r m)) in
    let both = count_either (within r) in_rest (numbers 0 limit) disjoint in
    omega arith
  where
    -- the number lies in a later range
    in_rest : ℕ → Bool
    in_rest x = any_of (λ (q : Range). within q x) rs

    -- as no later one overlaps the first, no number of the first does
    disjoint : (x : ℕ) → within r x ≡ true → in_rest x ≡ false
    disjoint x w =
        entry_none (λ (q : Range). within q x) rs
        (λ q m. apart r q (none_entry (overlap r) rs (or_left (any_of (overlap r) rs) (any_pair overlap rs) e) m) x w)
