-- The lowest rule that some header breaks, one header after another: what the loop over the headers keeps. Assumes nothing.
use Rattle.std.proofs.Common.{ℕ, zero, suc, ◌+◌, ◌≤◌, ◌<◌, add-one, arith, Bool, true, false, cond, List, [], ◌∷◌, ◌≡◌, refl, sym, ◌∙◌, ap, lt-ltb, le-ltb}
use Rattle.std.proofs.Math.Option.{Option, none, some, Option-elim}
use Rattle.pdi_spec.specs.File.{File, partitions, partition_numbers}
use Rattle.pdi_spec.specs.Lists.{numbers, first_of}
use Rattle.pdi_spec.specs.RuleList.{header_rules}
use Rattle.pdi_spec.specs.Verdict.{Rule, each, Outcome, accepted, refused, verdict, first_broken}
use Rattle.chain_rules.proofs.Counts.{count_is}
use Rattle.header_rules.specs.Headers.{verdict_up_to, lower_of}

-- an entry that is tried first comes before what the later ones tell
tried_first : (b : Bool) (x : ℕ) (found last : Option ℕ) {more : Option ℕ} → more ≡ Option-elim found last some
    → cond b (some x) more ≡ Option-elim (cond b (some x) found) last some
unfolding Option-elim
tried_first true x found last e = refl
tried_first false x found last e = e

-- a search among one number more
first_more : (test : ℕ → Bool) (a n : ℕ) → first_of test (numbers a (suc n))
    ≡ Option-elim (first_of test (numbers a n)) (cond (test (a + n)) (some (a + n)) none) some
unfolding first_of numbers Option-elim
first_more test a zero = let same : a + 0 ≡ a = omega arith in rw same refl
first_more test a (suc n) =
    let same : a + suc n ≡ suc a + n = omega arith in
    rw same (tried_first (test a) a _ _ (first_more test (suc a) n))

-- the rules' numbers follow each other, from k on
abbrev pub From : ℕ → List Rule → Type 0
From k [] = Unit
From k (r ∷ rs) = (r.number ≡ k) × From (suc k) rs

module _ (f : File) where
  -- so nothing below k is broken, at any p
  number_least : (rs : List Rule) (k p : ℕ) → From k rs → {m : ℕ} → first_broken rs f p ≡ some m → k ≤ m
  unfolding first_broken
  number_least [] k p h e = absurd (cc)
  number_least (r ∷ rs) k p h {m} e = go (λ q. number_least rs (suc k) p h.1 q) (r.broken f p) e
    where
      go : (first_broken rs f p ≡ some m → suc k ≤ m) → (b : Bool) → cond b (some r.number) (first_broken rs f p) ≡ some m → k ≤ m
      go ih true q = let same : r.number ≡ m = cc in omega (arith, h.0)
      go ih false q = omega (arith, ih q)

  refusal_least : (rs : List Rule) (k n : ℕ) → From k rs → {m q : ℕ} → verdict_up_to rs f n ≡ refused m q → k ≤ m
  unfolding verdict_up_to Option-elim
  refusal_least [] k n h e = absurd (cc)
  refusal_least (r ∷ rs) k n h {m} {q} e = go (λ t. refusal_least rs (suc k) n h.1 t) (first_of (r.broken f) (numbers 1 n)) e
    where
      go : (verdict_up_to rs f n ≡ refused m q → suc k ≤ m) → (o : Option ℕ)
          → Option-elim o (verdict_up_to rs f n) (refused r.number) ≡ refused m q → k ≤ m
      go ih (some x) t = let same : r.number ≡ m = cc in omega (arith, h.0)
      go ih none t = omega (arith, ih t)

-- a refusal stays where no lower number is found, and a number takes the place of any higher refusal
lower_stays : (m q p : ℕ) (o : Option ℕ) → ((k : ℕ) → o ≡ some k → m ≤ k) → lower_of (refused m q) o p ≡ refused m q
unfolding lower_of
lower_stays m q p none h = refl
lower_stays m q p (some k) h = rw (le-ltb k m (h k refl)) refl

lower_takes : (k p : ℕ) (o : Outcome) → ((m q : ℕ) → o ≡ refused m q → k < m) → lower_of o (some k) p ≡ refused k p
unfolding lower_of
lower_takes k p accepted h = refl
lower_takes k p (refused m q) h = rw (lt-ltb k m (h m q refl)) refl

pub lower_next : (f : File) (rs : List Rule) (k n : ℕ) → From k rs
    → lower_of (verdict_up_to rs f n) (first_broken rs f (1 + n)) (1 + n) ≡ verdict_up_to rs f (suc n)
unfolding verdict_up_to first_broken lower_of Option-elim
lower_next f [] k n h = refl
lower_next f (r ∷ rs) k n h =
    go (first_of (r.broken f) (numbers 1 n)) (r.broken f (1 + n)) (lower_next f rs (suc k) n h.1)
    ∙ ap (λ (o : Option ℕ). Option-elim o (verdict_up_to rs f (suc n)) (refused r.number)) (sym (first_more (r.broken f) 1 n))
  where
    go : (t : Option ℕ) (b : Bool) → lower_of (verdict_up_to rs f n) (first_broken rs f (1 + n)) (1 + n) ≡ verdict_up_to rs f (suc n)
        → lower_of (Option-elim t (verdict_up_to rs f n) (refused r.number)) (cond b (some r.number) (first_broken rs f (1 + n))) (1 + n)
        ≡ Option-elim (Option-elim t (cond b (some (1 + n)) none) some) (verdict_up_to rs f (suc n)) (refused r.number)
    go (some x) true ih = lower_stays r.number x (1 + n) (some r.number) (λ m e. let same : r.number ≡ m = cc in omega arith)
    go (some x) false ih =
        lower_stays r.number x (1 + n) (first_broken rs f (1 + n))
        (λ m e. omega (arith, h.0, number_least f rs (suc k) (1 + n) h.1 e))
    go none true ih =
        lower_takes r.number (1 + n) (verdict_up_to rs f n) (λ m q e. omega (arith, h.0, refusal_least f rs (suc k) n h.1 e))
    go none false ih = ih

-- ---- rules 11 to 16

pub starts : (f : File) → accepted ≡ verdict_up_to header_rules f 0
unfolding verdict_up_to header_rules each first_of numbers Option-elim
starts f = refl

pub next : (f : File) (i : ℕ) → lower_of (verdict_up_to header_rules f i) (first_broken header_rules f (i + 1)) (i + 1)
    ≡ verdict_up_to header_rules f (i + 1)
unfolding header_rules each
next f i =
    ap (λ (p : ℕ). lower_of (verdict_up_to header_rules f i) (first_broken header_rules f p) p) {x = i + 1} {y = 1 + i} (omega arith)
    ∙ lower_next f header_rules 11 i (refl, (refl, (refl, (refl, (refl, (refl, tt))))))
    ∙ ap (verdict_up_to header_rules f) (sym (add-one i))

pub ends : (f : File) {n : ℕ} → n ≡ partitions f → verdict_up_to header_rules f n ≡ verdict header_rules f
unfolding verdict_up_to header_rules verdict each partition_numbers
ends f e = rw e refl

-- what the loop over the headers needs
pub ruleset one_more = (starts, next, ends, count_is)
