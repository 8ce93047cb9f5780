-- `pairs::compare::any_crossing` meets its contract. Assumes nothing.
use Rattle.std.proofs.Common.{◌≡◌, Bool, false, List, rules, tests, ◌∙◌, ap, map}
use mathlib.Core.Bool.{and-true}
use Rattle.std.proofs.lemmas.Iterator.{YieldsList-from_slice}
use Rattle.std.proofs.lemmas.Iterator.Search.{any_from_yields_List}
use Rattle.pdi_spec.specs.Lists.{any_of}
use Rattle.pdi_spec.specs.Ranges.{Range, overlap}
use Rattle.ranges.specs.Range.{range_of}
use Rattle.pairs.specs.Lists.{clashes, crossing}
use Rattle.pairs.proofs.Lists.{any_map}
use Rattle.pairs.proofs.compare.any_crossing.Goals as goal

-- to clash where no two may be equal is to overlap
overlaps : (blocks ranges : List Range) → any_of (λ (b : Range). any_of (clashes false b) ranges) blocks ≡ crossing blocks ranges
unfolding clashes crossing
overlaps blocks ranges =
    ap (λ (test : Range → Range → Bool). any_of (λ (b : Range). any_of (test b) ranges) blocks) (λ i a b. and-true (overlap a b) i)

pub returns : goal.returns
returns c =
    any_from_yields_List (λ b. any_of (clashes false (range_of b)) (map range_of c.args.ranges.now)) _ _ _ c.any.ensures.ran
    (YieldsList-from_slice c.args.blocks.now cc) (λ x b q k. search (rules, tests))
    ∙ any_map range_of _ c.args.blocks.now
    ∙ overlaps (map range_of c.args.blocks.now) (map range_of c.args.ranges.now)
