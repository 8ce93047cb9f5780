-- `range_lists::lists::push_first` meets its contract: the boot header where the kind is 1, and two ranges behind it. Assumes nothing.
use Rattle.std.proofs.Common.{map}
use Rattle.headers.specs.Headers.{table_of}
use Rattle.ranges.specs.Range.{range_of}
use Rattle.range_lists.proofs.Joined.{boot_pushed, no_boot, first_joined}
use Rattle.range_lists.proofs.lists.push_first.Goals.{then-table-eq1, else-table-eq1}
use Rattle.range_lists.proofs.lists.push_first.Goals as goal

pub returns-clause-pushed : goal.returns-clause-pushed
returns-clause-pushed c =
    first_joined (table_of c.args.table) (map range_of c.args.ranges.now.items) c.if-table-eq1.ranges.items _ _ _ _
    (elim c.if-table-eq1.branch [
      | then-table-eq1 w ↦ rw w.ranges-is (boot_pushed _ _ _ _ w.if-table-eq1.true w.range.ensures w.push.ensures.items)
      | else-table-eq1 w ↦ rw w.ranges-is (no_boot _ _ w.if-table-eq1.false)
    ])
    c.with_optional.ensures c.push-2.ensures.items c.image_headers.ensures c.push-3.ensures.items
