-- `range_lists::lists::put_blocks`: the table's block, and then those of the first i partitions. Assumes nothing.
use Rattle.std.specs.Prelude.{◌≡◌, ◌+◌, ◌≤◌, map, length}
use Rattle.chain_rules.specs.File.{file_of_chain}
use Rattle.ranges.specs.Range.{range_of}
use Rattle.range_lists.proofs.Joined.{first_blocks}
use Rattle.range_lists.proofs.lists.put_blocks.Given as goal

abbrev pub invariant-loop-i : goal.invariant-loop-i
invariant-loop-i l =
    record {
      put : map range_of l.ranges.items ≡ first_blocks (file_of_chain l.chain) l.i;
      few : length l.ranges.items ≤ 1 + l.i;
    }
