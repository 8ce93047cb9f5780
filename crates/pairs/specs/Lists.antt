-- Tests of lists of ranges, and the most ranges of one. Assumes nothing.
use Rattle.std.specs.Prelude.{ℕ, ◌+◌, ◌*◌, Bool, true, not, ◌&&◌, ◌||◌, List}
use Rattle.pdi_spec.specs.Limits.{most_partitions}
use Rattle.pdi_spec.specs.Lists.{any_of, any_pair}
use Rattle.pdi_spec.specs.Ranges.{Range, overlap, same_range}

-- the most ranges of a list
abbrev pub most_ranges : ℕ
most_ranges = 3 + 2 * most_partitions

-- two ranges overlap, and are not equal where `equals` allows that, as rule 18 does for hash blocks
unfoldable pub clashes : Bool → Range → Range → Bool
clashes equals a b = overlap a b && not (equals && same_range a b)

-- some block overlaps some range
unfoldable pub crossing : List Range → List Range → Bool
crossing blocks ranges = any_of (λ (b : Range). any_of (overlap b) ranges) blocks

-- some block overlaps some range, or another block that it does not equal
unfoldable pub block_clash : List Range → List Range → Bool
block_clash blocks ranges = crossing blocks ranges || any_pair (clashes true) blocks
