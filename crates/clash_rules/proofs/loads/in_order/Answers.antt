-- `clash_rules::loads::in_order` meets its contract: load ranges in order do not meet (Meetings.antt). Assumes nothing.
use Rattle.std.proofs.Common.{sym, ◌∙◌, ap}
use Rattle.range_lists.specs.Parts.{load_of}
use Rattle.clash_rules.proofs.Meetings.{ordered_empty, ordered_next}
use Rattle.clash_rules.proofs.loads.in_order.Goals.{then-r-gt0+else-not-before, else-r-gt0}
use Rattle.clash_rules.proofs.loads.in_order.Goals as goal

pub loop-i-preserved : goal.loop-i-preserved
loop-i-preserved c =
    let l = c.loop-i in
    let r = c.load_of-r.ensures ∙ ap load_of c.header.ensures in
    elim c.if-r-gt0.branch [
      | then-r-gt0+else-not-before w ↦
          rw w.last-is (ordered_next _ l.i _ _ l.invariant r (sym w.before-then-r-gt0.ensures ∙ w.if-not-before.false))
      | else-r-gt0 w ↦ rw w.last-is (ordered_empty _ l.i _ l.invariant r w.if-r-gt0.false)
    ]
