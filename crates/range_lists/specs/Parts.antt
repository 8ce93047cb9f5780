-- The ranges that rules 18 and 19 compare: those before the partitions', and of each partition. Assumes nothing.
use Rattle.std.specs.Prelude.{ℕ, cond, List, [], ◌∷◌, ◌++◌, map, eqb}
use Rattle.pdi_spec.specs.Attributes.{has_load_address}
use Rattle.pdi_spec.specs.Headers.{Header, Table}
use Rattle.pdi_spec.specs.File.{File, header, partition_numbers}
use Rattle.range_lists.specs.declared.parts.Part.{Part}
use Rattle.pdi_spec.specs.Ranges.{Range, boot_range, table_with_optional, image_headers, header_range, span_of, body_of, load_range_of}

-- the boot header of a full image, the table with its optional data, the image headers
unfoldable pub first_ranges : Table → List Range
first_ranges t = cond (eqb t.kind 1) (boot_range ∷ []) [] ++ (table_with_optional t ∷ image_headers t ∷ [])

-- the load range, empty where there is no load address
unfoldable pub load_of : Header → Range
load_of h = cond (has_load_address h.attributes) (load_range_of h).addresses (record { start = 0; size = 0 })

-- which range of a partition is meant
abbrev pub part_of : Part → Header → Range
part_of Part.Header h = header_range h
part_of Part.Span h = span_of h
part_of Part.Body h = body_of h
part_of Part.Load h = load_of h

-- the part that a number means
unfoldable pub numbered : ℕ → Part
numbered n = cond (eqb n 0) Part.Header (cond (eqb n 1) Part.Span (cond (eqb n 2) Part.Body Part.Load))

-- that range of each partition
unfoldable pub parts_of : Part → File → List Range
parts_of part f = map (λ (p : ℕ). part_of part (header f p)) (partition_numbers f)
