-- `image_rules::owners::owner_of`: the first i images own that many partitions, fewer than p (Owned.antt). Assumes nothing.
use Rattle.std.proofs.Common.{arith, sym}
use Rattle.image_rules.proofs.ImageRuns.{images_are}
use Rattle.image_rules.proofs.Owned.{starts, onward, reached, count_read}
use Rattle.image_rules.proofs.owners.owner_of.Goals as goal

pub loop-i-init : goal.loop-i-init
loop-i-init c = starts _ _

pub returns-then-p-owned : goal.returns-then-p-owned
returns-then-p-owned c =
    let all = images_are _ c.args.headers.now.all_inside.own in
    sym (reached _ c.loop-i.invariant (count_read _ _ c.header-h.ensures) (omega (arith, all)) c.if-p-owned.true)

pub loop-i-preserved : goal.loop-i-preserved
loop-i-preserved c = onward _ c.loop-i.invariant (count_read _ _ c.header-h.ensures) (omega arith) c.if-p-owned.false
