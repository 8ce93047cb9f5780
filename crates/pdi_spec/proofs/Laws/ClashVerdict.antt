-- What a list of rules answers at rules 18 and 19, whatever stands before them, where that is kept, and whatever stands after them
-- under higher numbers. Assumes nothing.
use Rattle.std.specs.Prelude.{ℕ, ◌≤◌, ◌<◌, false, ◌↔◌, ◌≡◌}
use Rattle.std.proofs.Common.{arith, ⊎_elim, sym, ◌∙◌}
use mathlib.Core.List.{List, ◌∷◌, ◌++◌, Mem, eq-or-mem_of_mem-cons}
use Rattle.std.proofs.Math.Logic.Or
use Rattle.std.proofs.Math.Bridge.{le_prop}
use Rattle.std.proofs.Math.Option.{Option, none, some}
use Rattle.std.proofs.Math.Path.{refl, ap}
use Rattle.pdi_spec.specs.{Lists.numbers, Lists.first_of, Lists.First, File.File, File.partitions, File.partition_numbers, File.header, Rules.stored_ranges_clash, Rules.load_ranges_clash, Rules.load_address_bad, RuleList.of_header, RuleList.table_rules, RuleList.header_rules, RuleList.partition_rules, RuleList.reading_rules, Twice.PositionTwice, Twice.MeetsEarlier, Twice.AddressTwice, Twice.SmallestMeeting, Verdict.Rule, Verdict.once, Verdict.each, Verdict.each_and_table, Verdict.refused, Verdict.verdict, Verdict.Kept, Verdict.Keeps}
use Rattle.pdi_spec.proofs.Laws.{Tests.either, Tests.never_both, Tests.is_not_true, Tests.mem_numbers, Tests.numbers_mem, Firsts.first_mem, Firsts.first_none, Firsts.first_some, Firsts.first_smallest, Firsts.smallest_first, Verdict.verdict_broken, Verdict.verdict_kept, Verdict.no_such_number, Verdict.refused_number, Verdict.refused_p, Once.broken_here, Once.kept_here, Once.once_exactly, Kept.kept_each, Inside.reading_kept, Clash.twice_clash, Clash.clash_twice, Clash.meets_clash, Clash.clash_meets}

module _ (f : File) (before after : List Rule) (kept : Keeps before f) (headers : Keeps reading_rules f)
    (high : (r : Rule) → Mem r after → 19 < r.number) where
  abbrev from_loads : List Rule
  from_loads = each 19 load_ranges_clash ∷ after

  abbrev from_stored : List Rule
  from_stored = once 18 stored_ranges_clash ∷ from_loads

  stored_kept : stored_ranges_clash f ≡ false → verdict (before ++ from_stored) f ≡ verdict from_loads f
  stored_kept = kept_here 18 stored_ranges_clash f before from_loads kept

  later_high : (k : ℕ) → k < 19 → (r : Rule) → Mem r from_loads → k < r.number
  unfolding each
  later_high k h r m =
      Or.elim le_prop (eq-or-mem_of_mem-cons m) (λ q. omega (arith, ap (λ (s : Rule). s.number) q)) (λ l. omega (arith, high r l))

  -- ---- refused with 18

  pub refused_18 : (p : ℕ) → (verdict (before ++ from_stored) f ≡ refused 18 p) ↔ (PositionTwice f × (p ≡ 0))
  refused_18 p =
      let law = once_exactly 18 stored_ranges_clash f before from_loads kept (later_high 18 (omega arith)) p in (
        λ e. let t = law.0 e in (clash_twice f headers t.0, t.1),
        λ t. law.1 (twice_clash f t.0.position t.0.lies, t.1),
      )

  -- ---- refused with 19

  no_position : stored_ranges_clash f ≡ false → PositionTwice f → ⊥
  no_position h t = never_both (twice_clash f t.position t.lies) h

  no_clash : (PositionTwice f → ⊥) → stored_ranges_clash f ≡ false
  no_clash n = is_not_true (stored_ranges_clash f) (λ h. n (clash_twice f headers h))

  -- a partition whose load range meets an earlier one's is not the first
  counted : (p : ℕ) → MeetsEarlier f p → 1 ≤ p
  unfolding MeetsEarlier
  counted p m = omega (arith, m.1.counted, m.1.earlier)

  in_numbers : (p : ℕ) → p ≤ partitions f → MeetsEarlier f p → Mem p (numbers 1 (partitions f))
  in_numbers p h m = let c = counted p m in numbers_mem 1 (partitions f) c (omega arith)

  loads_broken : (p : ℕ) → first_of (load_ranges_clash f) (numbers 1 (partitions f)) ≡ some p → verdict from_loads f ≡ refused 19 p
  unfolding each partition_numbers
  loads_broken p e = verdict_broken (each 19 load_ranges_clash) after f p e

  -- the first p at which rule 19 is broken, where the list refuses with it
  first_meeting : (p : ℕ) → verdict from_loads f ≡ refused 19 p → First (load_ranges_clash f) (numbers 1 (partitions f)) p
  unfolding each partition_numbers Kept
  first_meeting p e = go (first_of (load_ranges_clash f) (numbers 1 (partitions f))) refl
    where
      go : (o : Option ℕ) → first_of (load_ranges_clash f) (numbers 1 (partitions f)) ≡ o
          → First (load_ranges_clash f) (numbers 1 (partitions f)) p
      go none q =
          absurd (no_such_number after f 19 p high (sym (verdict_kept (each 19 load_ranges_clash) after f (first_none _ _ q)) ∙ e))
      go (some x) q = first_some _ _ p (q ∙ ap some (refused_p (sym (loads_broken x q) ∙ e)))

  rule_16_at : (p : ℕ) → Mem p (numbers 1 (partitions f)) → load_address_bad (header f p) ≡ false
  unfolding partition_numbers reading_rules table_rules partition_rules header_rules first_of once each each_and_table
  rule_16_at p m = kept_each 16 (of_header load_address_bad) f (reading_kept f headers 16 refl) p m

  smallest_of : (p : ℕ) → First (load_ranges_clash f) (numbers 1 (partitions f)) p → SmallestMeeting f p
  smallest_of p t =
      let m = first_mem (load_ranges_clash f) (numbers 1 (partitions f)) p t in
      record {
        in_chain = omega (arith, (mem_numbers 1 (partitions f) m).1);
        meets = clash_meets f p (rule_16_at p m) t.passes;
        smallest =
            λ e l k. never_both (meets_clash f e k) (first_smallest (load_ranges_clash f) 1 (partitions f) p t e (counted e k) l);
      }

  first_of_lem : (p : ℕ) → SmallestMeeting f p → first_of (load_ranges_clash f) (numbers 1 (partitions f)) ≡ some p
  first_of_lem p s =
      smallest_first (load_ranges_clash f) 1 (partitions f) p (in_numbers p s.in_chain s.meets) (meets_clash f p s.meets)
      (λ e low l.
      is_not_true (load_ranges_clash f e)
      (λ h. s.smallest e l (clash_meets f e (rule_16_at e (numbers_mem 1 (partitions f) low (omega (arith, s.in_chain)))) h)))

  pub refused_19 : (p : ℕ) → (verdict (before ++ from_stored) f ≡ refused 19 p) ↔ ((PositionTwice f → ⊥) × SmallestMeeting f p)
  refused_19 p = (
    λ e.
        ⊎_elim (λ h. absurd (omega (arith, refused_number (sym (broken_here 18 stored_ranges_clash f before from_loads kept h) ∙ e))))
        (λ h. (no_position h, smallest_of p (first_meeting p (sym (stored_kept h) ∙ e)))) (either (stored_ranges_clash f)),
    λ t. stored_kept (no_clash t.0) ∙ loads_broken p (first_of_lem p t.1),
  )

  -- some p is answered exactly where no position is claimed twice, but some address is
  pub refused_19_some : ((p : ℕ) × (verdict (before ++ from_stored) f ≡ refused 19 p)) ↔ ((PositionTwice f → ⊥) × AddressTwice f)
  refused_19_some = (
    λ (p, e). let t = (refused_19 p).0 e in (t.0, record { p = p; in_chain = t.1.in_chain; meets = t.1.meets }),
    λ t. back t.0 t.1 (first_of (load_ranges_clash f) (numbers 1 (partitions f))) refl,
  )
    where
      back : (PositionTwice f → ⊥) → AddressTwice f → (o : Option ℕ) → first_of (load_ranges_clash f) (numbers 1 (partitions f)) ≡ o
          → (p : ℕ) × (verdict (before ++ from_stored) f ≡ refused 19 p)
      back n a none q =
          absurd (never_both (meets_clash f a.p a.meets) (first_none _ _ q a.p (in_numbers a.p a.in_chain a.meets)))
      back n a (some p) q = (p, stored_kept (no_clash n) ∙ loads_broken p q)
