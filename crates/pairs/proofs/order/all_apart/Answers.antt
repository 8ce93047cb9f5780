-- `pairs::order::all_apart` meets its contract. Assumes nothing.
use Rattle.pairs.proofs.Following.{outside_apart}
use Rattle.pairs.proofs.order.all_apart.Goals as goal

pub returns-then-in_order : goal.returns-then-in_order
returns-then-in_order c e =
    let order = c.in_order.ensures c.if-in_order.true in
    let ends = c.in-Some-Some in
    outside_apart c.args.blocks.now _ _ _ order (ends.ensures.item.3.1) (ends.ensures'.item.3.1) (c.all_outside.ensures e)
