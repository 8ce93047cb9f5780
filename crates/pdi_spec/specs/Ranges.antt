-- Document 01, "Span", rules 16, 18 and 19, "Positions, memory and claims": the ranges of stored bytes and of load addresses.
-- Assumes nothing.
use Rattle.std.specs.Prelude.{ℕ, suc, ◌+◌, ◌*◌, min, max, ◌^◌, Bool, cond, ◌&&◌, leb, ltb, eqb}
use mathlib.Core.List.{List, [], ◌∷◌, ◌++◌, map, flat_map}
use Rattle.pdi_spec.specs.Lists.{numbers}
use Rattle.pdi_spec.specs.Headers.{header_size, boot_size, Block, Table, image_header_words_of, Header}
use Rattle.pdi_spec.specs.Attributes.{has_load_address}
use Rattle.pdi_spec.specs.File.{File, table, is_full, partitions, partition_numbers, header, hash_block}
use Rattle.pdi_spec.specs.HashBlock.{no_block}

-- `size` numbers from `start` on: positions of the image, or addresses
pub record Range : Type 0 where
  pub start : ℕ
  pub size : ℕ

-- the number that follows the range's last
unfoldable pub end_of : Range → ℕ
end_of r = r.start + r.size

-- x lies in r
unfoldable pub within : Range → ℕ → Bool
within r x = leb r.start x && ltb x (end_of r)

-- Some number lies in both: the later start is before the earlier end. "Touching isn't clashing."
unfoldable pub overlap : Range → Range → Bool
overlap a b = ltb (max a.start b.start) (min (end_of a) (end_of b))

unfoldable pub same_range : Range → Range → Bool
same_range a b = eqb a.start b.start && eqb a.size b.size

-- "past the image": the range's end is greater than the limit, here the image's length
unfoldable pub past : ℕ → Range → Bool
past limit r = ltb limit (end_of r)

-- ---- ranges of stored bytes

abbrev pub boot_range : Range
boot_range = record { start = 0; size = boot_size }

-- the table alone, which rule 3 asks for
abbrev pub table_range : ℕ → Range
table_range place = record { start = place; size = header_size }

-- "Optional data follow the table directly (our reading)."
abbrev pub table_with_optional : Table → Range
table_with_optional t = record { start = t.place; size = header_size + 4 * t.optional_words }

-- "Image headers lie one after another, images × size words (our reading; 003 speaks of a list)."
abbrev pub image_headers : Table → Range
image_headers t = record { start = 4 * t.image_header_offset; size = 4 * (t.images * image_header_words_of t.header_sizes) }

abbrev pub header_range : Header → Range
header_range h = record { start = h.at; size = header_size }

-- "Span: T words from D."
abbrev pub span_of : Header → Range
span_of h = record { start = 4 * h.data_offset; size = 4 * h.total }

-- "Body: its first E words."
abbrev pub body_of : Header → Range
body_of h = record { start = 4 * h.data_offset; size = 4 * h.encrypted }

abbrev pub block_range : Block → Range
block_range b = record { start = 4 * b.offset; size = b.size }

-- of partition p
unfoldable pub span : File → ℕ → Range
span f p = span_of (header f p)

unfoldable pub body : File → ℕ → Range
body f p = body_of (header f p)

-- ---- the lists of rule 18

unfoldable pub spans : File → List Range
spans f = map (span f) (partition_numbers f)

unfoldable pub bodies : File → List Range
bodies f = map (body f) (partition_numbers f)

-- "the boot header (full only), table with optional data, image headers, each partition header"
unfoldable pub header_ranges : File → List Range
header_ranges f =
    cond (is_full f) (boot_range ∷ []) []
    ++ (table_with_optional (table f) ∷ image_headers (table f) ∷ map (λ (p : ℕ). header_range (header f p)) (partition_numbers f))

-- the range of a hash block, where there is one
unfoldable pub block_ranges : Block → List Range
block_ranges b = cond (no_block b) [] (block_range b ∷ [])

-- the table's block, then each partition's; a block that two headers name stands here twice
unfoldable pub hash_blocks : File → List Range
hash_blocks f = flat_map (λ (i : ℕ). block_ranges (hash_block f i)) (numbers 0 (suc (partitions f)))

-- ---- load ranges

-- "Its load range is then 4U addresses from the load address on." A record of its own: all ranges share one address space.
pub record LoadRange : Type 0 where
  pub addresses : Range

-- two load ranges share an address
unfoldable pub meet : LoadRange → LoadRange → Bool
meet a b = overlap a.addresses b.addresses

-- the address lies in the load range
unfoldable pub loads_to : LoadRange → ℕ → Bool
loads_to r address = within r.addresses address

abbrev pub load_address_of : Header → ℕ
load_address_of h = h.load_low + 2 ^ 32 * h.load_high

abbrev pub load_range_of : Header → LoadRange
load_range_of h = record { addresses = record { start = load_address_of h; size = 4 * h.unencrypted } }

-- of partition p: whether it has a load address, and its load range
unfoldable pub loads : File → ℕ → Bool
loads f p = has_load_address (header f p).attributes

unfoldable pub load_range : File → ℕ → LoadRange
load_range f p = load_range_of (header f p)

-- "A memory has one byte at each address from 0 to 2^64 - 1."
unfoldable pub address_space : ℕ
address_space = 2 ^ 64
