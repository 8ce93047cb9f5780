-- The byte offsets of a file's partition headers, as rule 10's stage hands them on, and what one link of the chain says. Assumes nothing.
use Rattle.std.specs.Prelude.{ℕ, ◌+◌, ◌≤◌, ◌<◌, Bool, true, false, List, Option, None, Some, ◌≡◌, length, get_or}
use Rattle.pdi_spec.specs.Answers.{asked}
use Rattle.pdi_spec.specs.Limits.{most_partitions}
use Rattle.pdi_spec.specs.Headers.{header_size}
use Rattle.pdi_spec.specs.File.{File, table, header, header_at}
use Rattle.pdi_spec.specs.Rules.{chain_broken}
use Rattle.headers.specs.Headers.{table_of}
use Rattle.headers.specs.declared.table.TableHeader.{TableHeader}

-- the file of an image and a table that was read in it
abbrev pub file_of : List ℕ → TableHeader → File
file_of bytes t = asked bytes t.place

-- t is the table that the image has at its place
abbrev pub IsTable : List ℕ → TableHeader → Type 0
IsTable bytes t = table_of t ≡ table (file_of bytes t)

-- t is the image's table, and these are the offsets of its headers, each header all inside the image; partitions are counted from 1
pub record IsChain (bytes : List ℕ) (t : TableHeader) (offsets : List ℕ) : Type 0 where
  pub own : IsTable bytes t
  pub few : t.partitions ≤ most_partitions
  pub along : (i : ℕ) → i < t.partitions → get_or offsets i 0 ≡ header_at (file_of bytes t) (i + 1)
  pub inside : (i : ℕ) → i < t.partitions → get_or offsets i 0 + header_size ≤ length bytes

-- the link at partition p: broken, or the next header's word offset
unfoldable pub link_of : Bool → ℕ → Option ℕ
link_of true next = None
link_of false next = Some next

unfoldable pub link_at : File → ℕ → Option ℕ
link_at f p = link_of (chain_broken f p) (header f p).next
