-- The derived `==` of two ranges: it compares both fields, as `same_range` does. Assumes nothing.
use mathlib.Core.Path.{◌≡◌, refl}
use Rattle.pdi_spec.specs.Ranges.{same_range}
use Rattle.ranges.specs.Range.{range_of}
use Rattle.ranges.specs.contracts.RangePartialEq.TheImpl.{ghosts}
use Rattle.ranges.specs.declared.Range.{Range}

pub equal : (a b : Range) → ghosts.eq a b ≡ same_range (range_of a) (range_of b)
unfolding same_range
equal a b = refl
