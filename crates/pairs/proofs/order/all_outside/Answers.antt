-- `pairs::order::all_outside` meets its contract. Assumes nothing.
use Rattle.std.proofs.Common.{rules, tests, ◌∙◌, sym}
use Rattle.std.proofs.lemmas.Iterator.{YieldsList-from_slice}
use Rattle.std.proofs.lemmas.Iterator.Search.{all_from_yields_List}
use Rattle.ranges.specs.Range.{range_of}
use Rattle.pairs.proofs.Following.{lies_outside, outside}
use Rattle.pairs.proofs.order.all_outside.Goals as goal

pub returns : goal.returns
returns c e =
    let test = lies_outside (range_of c.args.first) (range_of c.args.last) in
    let answer = all_from_yields_List test _ _ c.all.result c.all.ensures.ran (YieldsList-from_slice c.args.ranges.now cc)
    (λ x b q k. search (rules, tests)) in
    outside _ _ c.args.ranges.now (sym answer ∙ e)
