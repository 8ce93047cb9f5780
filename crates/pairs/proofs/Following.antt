-- Ranges in order do not clash, and a range outside of the first and the last overlaps none of them. Assumes nothing.
use Prim.Native.Nat.{ℕ, zero, suc, ◌-◌, ◌≤◌, ◌<◌, min, max}
use native.Mathlib.Decide.{dec_lt}
use native.Mathlib.Omega.{arith}
use mathlib.Core.Bool.{Bool, true, false, ◌&&◌, ◌||◌, and-false}
use mathlib.Core.List.{List, map}
use mathlib.Core.Logic.{◌⊎◌, inl, inr, ⊎_elim}
use mathlib.Core.Path.{◌≡◌, refl, sym, ◌∙◌, ap}
use lib.Dec.{eqb}
use borrow.Author.Tests.{le-ltb, leb-true, eqb-true, eq-eqb}
use Rattle.pdi_spec.specs.Ranges.{Range, end_of, overlap, same_range}
use Rattle.pdi_spec.proofs.Laws.Tests.{or_cases, and_left, and_right, and_both}
use Rattle.pdi_spec.proofs.Laws.Searches.{no_entry, no_pair}
use Rattle.pdi_spec.specs.Lists.{any_pair}
use Rattle.std.proofs.Common.{add-one, length, get_or}
use Rattle.std.proofs.Math.ListN.{get_or-map}
use Rattle.std.proofs.lemmas.List.{get_or-map as get_or-map_at}
use Rattle.std.proofs.lemmas.List.{length-map}
use Rattle.std.proofs.lemmas.List.Elements.{All-map}
use Rattle.std.proofs.lemmas.List.Sums.{AllPass-from_list_all}
use Rattle.std.specs.List.{AllAdjacentBelow, HoldsAt, list_all}
use Rattle.ranges.specs.Range.{ends_before, range_of}
use Rattle.ranges.specs.declared.Range as Code
use Rattle.pairs.specs.Lists.{clashes, crossing}
use Rattle.pairs.specs.Order.{Follows, InOrder, Outside}

-- what a test that was made of two ranges says of the ranges that they are
pub told : {a b x y : Range} {t u : Bool} (test : Range → Range → Bool) → a ≡ x → b ≡ y → t ≡ test a b → t ≡ u
    → test x y ≡ u
told test p q e h = sym (λ i. test (p i) (q i)) ∙ sym e ∙ h

pub apart : (a b : Range) → min (end_of a) (end_of b) ≤ max a.start b.start → overlap a b ≡ false
unfolding overlap
apart a b l = le-ltb (max a.start b.start) (min (end_of a) (end_of b)) l

pub ends_before_lem : (a b : Range) → ends_before a b ≡ true → end_of a ≤ b.start
unfolding ends_before
ends_before_lem a b e = leb-true (end_of a) b.start e

same_range_lem : (a b : Range) → same_range a b ≡ true → a ≡ b
unfolding same_range
same_range_lem a b e =
    let starts = eqb-true a.start b.start (and_left (eqb a.start b.start) (eqb a.size b.size) e) in
    let sizes = eqb-true a.size b.size (and_right (eqb a.start b.start) (eqb a.size b.size) e) in
    λ i. record { start = starts i; size = sizes i }

range_same : (a : Range) → same_range a a ≡ true
unfolding same_range
range_same a = and_both _ _ (eq-eqb a.start a.start refl) (eq-eqb a.size a.size refl)

-- what an index past the end would read
abbrev none : Code.Range
none = record { start = 0; size = 0 }

abbrev nowhere : Range
nowhere = record { start = 0; size = 0 }

-- ---- in order

-- the test of two neighbours
abbrev pub follows : Bool → Code.Range → Code.Range → Bool
follows equals a b = ends_before (range_of a) (range_of b) || (equals && same_range (range_of a) (range_of b))

pub follows_lem : (equals : Bool) (a b : Code.Range) → follows equals a b ≡ true → Follows equals (range_of a) (range_of b)
follows_lem equals x y e =
    let a = range_of x in
    let b = range_of y in
    ⊎_elim (λ h. inl (ends_before_lem a b h))
    (λ h. inr (and_left equals (same_range a b) h, same_range_lem a b (and_right equals (same_range a b) h)))
    (or_cases (ends_before a b) (equals && same_range a b) e)

pub follows_on : (equals : Bool) (a b d : Range) → Follows equals a b → Follows equals b d → Follows equals a d
unfolding end_of
follows_on equals a b d (inr p) q = rw p.1 q
follows_on equals a b d (inl l) (inr q) = rw (← q.1) (inl l)
follows_on equals a b d (inl l) (inl k) = inl (omega arith)

pub follows_apart : (equals : Bool) (a b : Range) → Follows equals a b → clashes equals a b ≡ false
unfolding clashes
follows_apart equals a b (inl l) = rw (apart a b (omega arith))
follows_apart equals a b (inr p) = rw (p.0, p.1, range_same b) (and-false (overlap b b))

-- where each follows the one before it, each follows all before it
module _ (equals : Bool) (xs : List Code.Range)
    (adjacent : AllAdjacentBelow (λ (a b : Code.Range). true ≡ follows equals a b) xs (length xs)) where
  next : (k : ℕ) (d : Range) → suc k < length (map range_of xs)
      → Follows equals (get_or (map range_of xs) k d) (get_or (map range_of xs) (suc k) d)
  next k d l =
      let near : k < length xs = omega (arith, length-map xs range_of) in
      let here : suc k < length xs = omega (arith, length-map xs range_of) in
      rw (get_or-map_at range_of xs k none d near, get_or-map_at range_of xs (suc k) none d here)
      (follows_lem equals _ _ (sym (rw add-one at (adjacent k none (omega arith)))))

  pub in_order : InOrder equals (map range_of xs)
  in_order i zero d l m = absurd (omega arith)
  in_order i (suc j) d l m =
      elim (dec_lt i j) [
        | yes far ↦ follows_on equals _ _ _ (in_order i j d far (omega arith)) (next j d m)
        | no near ↦ let same : i ≡ j = omega arith in rw same (next j d m)
      ]

-- none of them clash
pub order_apart : (equals : Bool) (xs : List Range) → InOrder equals xs → any_pair (clashes equals) xs ≡ false
order_apart equals xs order = no_pair nowhere _ xs (λ i j l m. follows_apart _ _ _ (order i j nowhere l m))

-- a later range neither starts nor ends earlier
follows_bounds : (equals : Bool) (a b : Range) → Follows equals a b → (a.start ≤ b.start) × (end_of a ≤ end_of b)
unfolding end_of
follows_bounds equals a b (inl l) = (omega arith, omega arith)
follows_bounds equals a b (inr p) = rw p.1 (omega arith, omega arith)

-- ---- in order, and others outside of the first and the last

module _ (blocks : List Range) (order : InOrder true blocks) where
  bounds : (i j : ℕ) → i ≤ j → j < length blocks
      → ((get_or blocks i nowhere).start ≤ (get_or blocks j nowhere).start)
      × (end_of (get_or blocks i nowhere) ≤ end_of (get_or blocks j nowhere))
  bounds i j l h =
      elim (dec_lt i j) [
        | yes k ↦ follows_bounds true _ _ (order i j nowhere k h)
        | no k ↦ let same : i ≡ j = omega arith in rw same (omega arith, omega arith)
      ]

-- no block overlaps what lies outside of the first and the last
pub outside_apart : (blocks : List Code.Range) (ranges : List Range) (first last : Code.Range)
    → InOrder true (map range_of blocks) → HoldsAt (λ (b : Code.Range). first ≡ b) blocks 0
    → HoldsAt (λ (b : Code.Range). last ≡ b) blocks (length blocks - 1)
    → Outside (range_of first) (range_of last) ranges → crossing (map range_of blocks) ranges ≡ false
unfolding crossing
outside_apart blocks ranges first last order p q out =
    no_entry nowhere _ (map range_of blocks)
    (λ i l. no_entry nowhere _ ranges (λ j k. clear i j l (out j nowhere k)))
  where
    entry : (i : ℕ) → get_or (map range_of blocks) i nowhere ≡ range_of (get_or blocks i none)
    entry i = get_or-map range_of blocks i none

    clear : (i j : ℕ) → i < length (map range_of blocks)
        → (end_of (get_or ranges j nowhere) ≤ first.start) ⊎ (end_of (range_of last) ≤ (get_or ranges j nowhere).start)
        → overlap (get_or (map range_of blocks) i nowhere) (get_or ranges j nowhere) ≡ false
    clear i j l (inl h) =
        let low = (bounds (map range_of blocks) order 0 i (omega arith) l).0 in
        apart _ _ (omega (arith, low, ap (λ (r : Code.Range). r.start) (p none), ap (λ (r : Range). r.start) (entry 0)))
    clear i j l (inr h) =
        let n : length blocks - 1 < length (map range_of blocks) = omega (arith, length-map blocks range_of) in
        let end = λ (r : Code.Range). end_of (range_of r) in
        let high = (bounds (map range_of blocks) order i (length blocks - 1) (omega (arith, length-map blocks range_of)) n).1 in
        apart _ _ (omega (arith, high, ap end (q none), ap end_of (entry (length blocks - 1))))

pub none_cross : (blocks : List Code.Range) (ranges : List Range) → length blocks ≡ 0 → crossing (map range_of blocks) ranges ≡ false
unfolding crossing
none_cross blocks ranges e =
    no_entry nowhere _ (map range_of blocks) (λ i l. absurd (omega (arith, length-map blocks range_of)))

-- the test of one range against two
abbrev pub lies_outside : Range → Range → Code.Range → Bool
lies_outside first last a = ends_before (range_of a) first || ends_before last (range_of a)

pub lies_outside_lem : (first last : Range) (a : Code.Range) → lies_outside first last a ≡ true
    → (end_of (range_of a) ≤ first.start) ⊎ (end_of last ≤ a.start)
lies_outside_lem first last a e =
    ⊎_elim (λ h. inl (ends_before_lem (range_of a) first h)) (λ h. inr (ends_before_lem last (range_of a) h))
    (or_cases (ends_before (range_of a) first) (ends_before last (range_of a)) e)

pub outside : (first last : Range) (xs : List Code.Range) → list_all (lies_outside first last) xs ≡ true
    → Outside first last (map range_of xs)
outside first last xs e =
    All-map (λ (a : Range). (end_of a ≤ first.start) ⊎ (end_of last ≤ a.start)) range_of xs
    (λ k d l. lies_outside_lem first last _ (AllPass-from_list_all _ xs e k d l))
