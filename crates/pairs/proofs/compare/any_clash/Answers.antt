-- `pairs::compare::any_clash` meets its contract. Assumes nothing.
use Prim.Native.Nat.{ℕ, ◌+◌}
use Rattle.std.proofs.lemmas.Grind.{common_steps}
use Rattle.std.proofs.Common.{arith, ◌∙◌, map, sym, drop}
use Rattle.std.proofs.lemmas.Iterator.{YieldsList-from_slice}
use Rattle.std.proofs.lemmas.Iterator.Consumers.{YieldsList-from_enumerate}
use Rattle.std.proofs.lemmas.Iterator.Search.{any_from_yields_List}
use Rattle.pdi_spec.specs.Lists.{any_of}
use Rattle.ranges.specs.Range.{range_of}
use Rattle.ranges.specs.declared.Range.{Range}
use Rattle.pairs.specs.Lists.{clashes}
use Rattle.pairs.proofs.Lists.{pair_map}
use Rattle.pairs.proofs.Following.{order_apart}
use Rattle.pairs.proofs.compare.any_clash.Goals as goal

pub returns-then-in_order : goal.returns-then-in_order
returns-then-in_order c = sym (order_apart _ _ (c.in_order.ensures c.if-in_order.true))

pub returns : goal.returns
returns c =
    any_from_yields_List
    (λ (p : ℕ × Range). any_of (clashes c.args.equals (range_of p.1)) (map range_of (drop (p.0 + 1) c.args.ranges.now))) _ _ _
    c.any.ensures.ran (YieldsList-from_enumerate (YieldsList-from_slice c.args.ranges.now cc) cc)
    (λ x b q k. grind (arith, common_steps))
    ∙ pair_map range_of _ c.args.ranges.now
