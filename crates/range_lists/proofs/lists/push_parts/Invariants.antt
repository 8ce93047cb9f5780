-- `range_lists::lists::push_parts`: behind what was there lie the ranges of the first i partitions. Assumes nothing.
use Rattle.std.specs.Prelude.{◌≡◌, ◌+◌, ◌++◌, map, length}
use Rattle.chain_rules.specs.File.{file_of_chain}
use Rattle.ranges.specs.Range.{range_of}
use Rattle.range_lists.proofs.Joined.{first_parts}
use Rattle.range_lists.proofs.lists.push_parts.Given as goal

abbrev pub invariant-loop-i : goal.invariant-loop-i
invariant-loop-i l =
    record {
      pushed : map range_of l.ranges.items ≡ map range_of l.initial.ranges.items ++ first_parts l.part (file_of_chain l.chain) l.i;
      counted : length l.ranges.items ≡ length l.initial.ranges.items + l.i;
    }
