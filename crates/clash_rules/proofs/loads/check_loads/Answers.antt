-- `clash_rules::loads::check_loads` meets its contract: the first partition that meets an earlier one is found (Meetings.antt). Assumes
-- nothing.
use Rattle.std.proofs.Common.{sym, ◌∙◌, ap, arith}
use Rattle.range_lists.specs.Parts.{load_of}
use Rattle.clash_rules.proofs.Meetings.{none_more, loads_clash}
use Rattle.clash_rules.proofs.loads.check_loads.Goals.{else-partitions-test, then-partitions-test+then-loop-j-test+then-overlap}
use Rattle.clash_rules.proofs.loads.check_loads.Goals as goal

pub partitions-preserved : goal.partitions-preserved
partitions-preserved c =
    let l = c.partitions in
    let here = none_more _ l.i l.invariant.none_meets (λ k h. c.loop-j.invariant.apart k (omega arith)) in
    record { none_found = c.loop-j.invariant.none_found; none_meets = here }

pub returns : goal.returns
returns c =
    let l = c.partitions in
    elim c.partitions-test.branch [
      | else-partitions-test w ↦ absurd (cc)
      | then-partitions-test+then-loop-j-test+then-overlap w ↦
          sym
          (loads_clash c.args.chain.now l.i l.invariant.none_meets w.loop-j.j c.in-Some.partition (omega (arith, w.partitions-test.true))
          (omega arith) (w.load_of-a.ensures ∙ ap load_of w.header.ensures) (w.load_of-b.ensures ∙ ap load_of w.header-in-loop-j.ensures)
          (sym w.overlap.ensures ∙ w.if-overlap.true) (cc))
    ]
