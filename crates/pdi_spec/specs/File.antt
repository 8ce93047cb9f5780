-- A lent image with its table place, its table, and the chain of its partition headers. Assumes nothing.
use Rattle.std.specs.Prelude.{ℕ, zero, suc, ◌*◌, Bool, List, eqb}
use Rattle.pdi_spec.specs.Lists.{numbers}
use Rattle.pdi_spec.specs.Headers.{Table, table_from, Header, header_from, Block}

-- "each on a lent image and a table place (a byte offset; the guide doesn't give one)"
pub record File : Type 0 where
  pub bytes : List ℕ
  pub place : ℕ

unfoldable pub table : File → Table
table f = table_from f.bytes f.place

unfoldable pub is_full : File → Bool
is_full f = eqb (table f).kind 1

-- N, and the partitions 1 to N, in chain order
unfoldable pub partitions : File → ℕ
partitions f = (table f).partitions

unfoldable pub partition_numbers : File → List ℕ
partition_numbers f = numbers 1 (partitions f)

-- The chain: the table says where header 1 is, and each header's word 0xC says where the next one is. Partitions are counted from 1:
-- the clause of partition 0 only makes the definition total.
unfoldable pub header_at : File → ℕ → ℕ
header_at f zero = 0
header_at f (suc zero) = 4 * (table f).first_header_offset
header_at f (suc (suc p)) = 4 * (header_from f.bytes (header_at f (suc p))).next

unfoldable pub header : File → ℕ → Header
header f p = header_from f.bytes (header_at f p)

-- the hash block that the table names (index 0, the meta header), or that header p names (index p)
unfoldable pub hash_block : File → ℕ → Block
hash_block f zero = (table f).block
hash_block f (suc p) = (header f (suc p)).block
