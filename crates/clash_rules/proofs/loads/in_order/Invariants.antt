-- `clash_rules::loads::in_order`: none of the first i load ranges meets an earlier one, and none ends after the last that was seen
-- (Meetings.antt). Assumes nothing.
use Rattle.chain_rules.specs.File.{file_of_chain}
use Rattle.ranges.specs.Range.{range_of}
use Rattle.clash_rules.proofs.Meetings.{Ordered}
use Rattle.clash_rules.proofs.loads.in_order.Given as goal

abbrev pub invariant-loop-i : goal.invariant-loop-i
invariant-loop-i l = Ordered (file_of_chain l.chain) l.i (range_of l.last)
