-- The code's range as the record of pdi_spec, and ranges in order. Assumes nothing.
use Rattle.std.specs.Prelude.{Bool, leb}
use Rattle.pdi_spec.specs.Ranges
use Rattle.ranges.specs.declared.Range.{Range}

abbrev pub range_of : Range → Ranges.Range
range_of r = record { start = r.start; size = r.size }

-- the first range ends at or before the second's start
unfoldable pub ends_before : Ranges.Range → Ranges.Range → Bool
ends_before a b = leb (Ranges.end_of a) b.start
