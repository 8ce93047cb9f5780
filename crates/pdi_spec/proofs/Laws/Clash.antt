-- Laws of rules 18 and 19: rule 18 is broken exactly where a position is claimed twice, and rule 19 at p exactly where p's load range
-- meets an earlier partition's; and what a list of rules that has both then answers. Assumes nothing.
use Rattle.std.specs.Prelude.{ℕ, ◌-◌, ◌<◌, Bool, ◌&&◌, ◌⊎◌, ◌≡◌, refl, eqb, length}
use Rattle.std.proofs.Common.{arith, inl, inr}
use Rattle.std.proofs.Math.Bool.{true, false, not, and-eq-true_iff}
use mathlib.Core.List.Sublist
use mathlib.Core.List.{List, [], ◌∷◌, ◌++◌, mem-cons_self}
use Rattle.std.proofs.Math.Logic.{⊎_elim}
use Rattle.std.proofs.Math.Path.{ap}
use borrow.Author.Tests.{not-true, eqb-true, eq-eqb, ltb-false}
use Rattle.pdi_spec.specs.{Lists.numbers, Lists.any_true, Lists.any_of, Lists.any_pair, File.File, File.header, Ranges.Range, Ranges.end_of, Ranges.within, Ranges.overlap, Ranges.same_range, Ranges.past, Ranges.spans, Ranges.bodies, Ranges.header_ranges, Ranges.hash_blocks, Ranges.meet, Ranges.loads, Ranges.load_range, Ranges.loads_to, Ranges.address_space, Rules.stored_ranges_clash, Rules.load_ranges_clash, Rules.load_address_bad, RuleList.reading_rules, Twice.LiesInTwo, Twice.two_stored, Twice.block_and_stored, Twice.two_blocks, Twice.PositionTwice, Twice.MeetsEarlier, Verdict.Keeps}
use Rattle.pdi_spec.proofs.Laws.{Tests.or_inl, Tests.or_inr, Tests.is_not_true, Tests.never_both, Tests.any_entry, Tests.entry_any, Tests.pair_entries, Tests.entries_pair, Tests.overlap_shared, Tests.shared_overlap, Tests.mem_numbers, Tests.numbers_mem, Tests.within_bounds, Kept.Inside, Kept.load_in_space, Inside.stored_inside, Inside.blocks_inside}

-- ---- equal ranges

same_equal : (g h : Range) → same_range g h ≡ true → g ≡ h
unfolding same_range
same_equal g h e =
    let both = (and-eq-true_iff (eqb g.start h.start) (eqb g.size h.size)).0 e in
    λ i. record { start = eqb-true g.start h.start both.0 i; size = eqb-true g.size h.size both.1 i }

equal_same : (g h : Range) → g ≡ h → same_range g h ≡ true
unfolding same_range
equal_same g h e =
    (and-eq-true_iff (eqb g.start h.start) (eqb g.size h.size)).1
    (eq-eqb g.start h.start (ap (λ (r : Range). r.start) e), eq-eqb g.size h.size (ap (λ (r : Range). r.size) e))

-- ---- rule 18

-- the three parts of rule 18, as one of three
three : (a b c : Bool) → any_true (a ∷ b ∷ c ∷ []) ≡ true → (a ≡ true) ⊎ ((b ≡ true) ⊎ (c ≡ true))
unfolding any_true
three true b c e = inl refl
three false true c e = inr (inl refl)
three false false true e = inr (inr refl)
three false false false e = inr (inr e)

module _ (f : File) where
  abbrev stored : List Range
  stored = header_ranges f ++ spans f

  abbrev beside : List Range
  beside = header_ranges f ++ bodies f

  abbrev differing : Range → Range → Bool
  differing g h = overlap g h && not (same_range g h)

  -- a position that lies in two such ranges breaks the rule
  pub twice_clash : (x : ℕ) → LiesInTwo f x → stored_ranges_clash f ≡ true
  unfolding stored_ranges_clash any_true
  twice_clash x (two_stored a b t p q) = or_inl (any_pair overlap stored) _ (entries_pair overlap stored t (shared_overlap a b x p q))
  twice_clash x (block_and_stored h b m n p q) =
      or_inr (any_pair overlap stored) _
      (or_inl (any_of (λ (g : Range). any_of (overlap g) beside) (hash_blocks f)) _
      (entry_any (λ (g : Range). any_of (overlap g) beside) (hash_blocks f) m (entry_any (overlap h) beside n (shared_overlap h b x p q))))
  twice_clash x (two_blocks g h t d p q) =
      or_inr (any_pair overlap stored) _
      (or_inr (any_of (λ (k : Range). any_of (overlap k) beside) (hash_blocks f)) _
      (or_inl (any_pair differing (hash_blocks f)) false
      (entries_pair differing (hash_blocks f) t
      ((and-eq-true_iff (overlap g h) (not (same_range g h))).1
      (shared_overlap g h x p q, ap not (is_not_true (same_range g h) (λ e. d (same_equal g h e))))))))

  module _ (keeps : Keeps reading_rules f) where
    -- a number of a range that lies inside the image is a position
    position : (r : Range) (x : ℕ) → Inside f r → within r x ≡ true → x < length f.bytes
    unfolding Inside end_of
    position r x i e = let w = within_bounds r x e in omega (arith, i, w.1)

    -- and where the rule is broken, there is one
    pub clash_twice : stored_ranges_clash f ≡ true → PositionTwice f
    unfolding stored_ranges_clash
    clash_twice e = ⊎_elim first (⊎_elim second third) (three (any_pair overlap stored) _ _ e)
      where
        first : any_pair overlap stored ≡ true → PositionTwice f
        first h =
            let t = pair_entries overlap stored h in
            let s = overlap_shared t.0 t.1 t.3 in
            let inside = stored_inside f keeps t.0 (Sublist.subset t.2 t.0 mem-cons_self) in
            record {
              position = s.0;
              inside_image = position t.0 s.0 inside s.1;
              lies = two_stored t.0 t.1 t.2 s.1 s.2;
            }

        second : any_of (λ (h : Range). any_of (overlap h) beside) (hash_blocks f) ≡ true → PositionTwice f
        second h =
            let t = any_entry (λ (g : Range). any_of (overlap g) beside) (hash_blocks f) h in
            let u = any_entry (overlap t.0) beside t.2 in
            let s = overlap_shared t.0 u.0 u.2 in
            record {
              position = s.0;
              inside_image = position t.0 s.0 (blocks_inside f keeps t.0 t.1) s.1;
              lies = block_and_stored t.0 u.0 t.1 u.1 s.1 s.2;
            }

        third : any_pair differing (hash_blocks f) ≡ true → PositionTwice f
        third h =
            let t = pair_entries differing (hash_blocks f) h in
            let both = (and-eq-true_iff (overlap t.0 t.1) (not (same_range t.0 t.1))).0 t.3 in
            let s = overlap_shared t.0 t.1 both.0 in
            let other = not-true (same_range t.0 t.1) both.1 in
            let inside = blocks_inside f keeps t.0 (Sublist.subset t.2 t.0 mem-cons_self) in
            record {
              position = s.0;
              inside_image = position t.0 s.0 inside s.1;
              lies = two_blocks t.0 t.1 t.2 (λ q. never_both (equal_same t.0 t.1 q) other) s.1 s.2;
            }

-- ---- rule 19

module _ (f : File) where
  abbrev meets_at : ℕ → ℕ → Bool
  meets_at p e = loads f e && meet (load_range f p) (load_range f e)

  -- p's load range meets an earlier one's: the rule is broken at p
  pub meets_clash : (p : ℕ) → MeetsEarlier f p → load_ranges_clash f p ≡ true
  unfolding load_ranges_clash MeetsEarlier loads_to meet
  meets_clash p (e, s) =
      let shared = shared_overlap (load_range f p).addresses (load_range f e).addresses s.address s.in_p s.in_e in
      let met = (and-eq-true_iff (loads f e) (meet (load_range f p) (load_range f e))).1 (s.loads_e, shared) in
      let earlier = numbers_mem 1 (p - 1) s.counted (omega (arith, s.earlier, s.counted)) in
      (and-eq-true_iff (loads f p) (any_of (meets_at p) (numbers 1 (p - 1)))).1 (s.loads_p, entry_any (meets_at p) _ earlier met)

  -- the rule is broken at p, whose load range ends in the address space: it meets an earlier one's
  pub clash_meets : (p : ℕ) → load_address_bad (header f p) ≡ false → load_ranges_clash f p ≡ true → MeetsEarlier f p
  unfolding load_ranges_clash MeetsEarlier loads_to meet past end_of
  clash_meets p k h =
      let here = (and-eq-true_iff (loads f p) (any_of (meets_at p) (numbers 1 (p - 1)))).0 h in
      let t = any_entry (meets_at p) (numbers 1 (p - 1)) here.1 in
      let e = t.0 in
      let b = mem_numbers 1 (p - 1) t.1 in
      let met = (and-eq-true_iff (loads f e) (meet (load_range f p) (load_range f e))).0 t.2 in
      let s = overlap_shared (load_range f p).addresses (load_range f e).addresses met.1 in (
        e,
        record {
          counted = b.0;
          earlier = omega (arith, b.0, b.1);
          loads_e = met.0;
          loads_p = here.0;
          address = s.0;
          in_space = below here.0 s.0 s.1;
          in_e = s.2;
          in_p = s.1;
        },
      )
    where
      below : loads f p ≡ true → (a : ℕ) → within (load_range f p).addresses a ≡ true → a < address_space
      below here a w =
          let end = ltb-false address_space (end_of (load_range f p).addresses) (load_in_space f p here k) in
          let u = within_bounds (load_range f p).addresses a w in
          omega (arith, end, u.1)
