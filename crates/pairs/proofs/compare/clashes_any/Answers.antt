-- `pairs::compare::clashes_any` meets its contract. Assumes nothing.
use Rattle.std.proofs.Common.{rules, tests, ◌∙◌}
use Rattle.std.proofs.lemmas.Iterator.{YieldsList-from_slice}
use Rattle.std.proofs.lemmas.Iterator.Search.{any_from_yields_List}
use Rattle.ranges.specs.Range.{range_of}
use Rattle.pairs.specs.Lists.{clashes}
use Rattle.pairs.proofs.Lists.{any_map}
use Rattle.pairs.proofs.compare.clashes_any.Goals as goal

pub returns : goal.returns
returns c =
    any_from_yields_List (λ b. clashes c.args.equals (range_of c.args.a) (range_of b)) _ _ _ c.any.ensures.ran
    (YieldsList-from_slice c.args.others.now cc) (λ x b q k. search (rules, tests))
    ∙ any_map range_of _ c.args.others.now
