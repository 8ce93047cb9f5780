-- Document 01, "Hash block" (004) and rule 17: the entries of a hash block, and the one of its own index. Assumes nothing.
use Rattle.std.specs.Prelude.{ℕ, ◌+◌, ◌*◌, ◌/◌, Bool, ◌&&◌, List, eqb}
use Rattle.std.proofs.Math.Option.{Option-elim}
use Rattle.pdi_spec.specs.Lists.{numbers, count_of, first_of}
use Rattle.pdi_spec.specs.Headers.{Block}
use Rattle.pdi_spec.specs.Words.{word_at}

-- "length and offset both 0: no block"
abbrev pub no_block : Block → Bool
no_block b = eqb b.size 0 && eqb b.offset 0

-- "entries of a 4-byte index and a 48-byte digest": 52 bytes
abbrev pub digest_size : ℕ
digest_size = 48

abbrev pub entry_size : ℕ
entry_size = 4 + digest_size

-- "52n rounded up to a multiple of 16"
unfoldable pub size_of_entries : ℕ → ℕ
size_of_entries n = (entry_size * n + 15) / 16 * 16

-- The n that a block's size stands for: the padding, under 16 bytes, holds no entry (Claims.antt, entries_unique).
unfoldable pub entries_in : ℕ → ℕ
entries_in size = size / entry_size

-- the byte offset of entry k, counted from 0
unfoldable pub entry_at : Block → ℕ → ℕ
entry_at b k = 4 * b.offset + entry_size * k

-- entry k has the index i
unfoldable pub has_index : List ℕ → Block → ℕ → ℕ → Bool
has_index bytes b i k = eqb (word_at bytes (entry_at b k)) i

-- the block's entries
unfoldable pub entry_numbers : Block → List ℕ
entry_numbers b = numbers 0 (entries_in b.size)

-- how many entries have the index i
unfoldable pub own_entries : List ℕ → Block → ℕ → ℕ
own_entries bytes b i = count_of (has_index bytes b i) (entry_numbers b)

-- "byte offset of its hash entry (0 if none)": the first of index i. With no block there is no entry, as the size is 0.
unfoldable pub hash_entry_in : List ℕ → Block → ℕ → ℕ
hash_entry_in bytes b i = Option-elim (first_of (has_index bytes b i) (entry_numbers b)) 0 (entry_at b)
