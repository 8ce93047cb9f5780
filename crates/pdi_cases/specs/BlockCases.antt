-- Document 01, rules 17 and 18, and the hash entry of a row: for each clause images that it refuses, and next to them what it takes. What
-- is said of a case is taken from document 01. Assumes nothing.
use Rattle.std.specs.Prelude.{ℕ, ◌+◌, ◌*◌, List, [], ◌∷◌, ◌++◌, map, take}
use Rattle.pdi_spec.specs.Bench.{Edit, ◌:=◌, in_header}
use Rattle.pdi_cases.specs.Images.{longer, edited, words, behind, behind_word, two_partitions}
use Rattle.pdi_cases.specs.Cases.{Trial, breaks, keeps, Answered, ImageCase, at0, refused_with, listing, row, with_row, as_given}

-- the length in bytes and the offset in words of a hash block, in the table or header at an offset
abbrev block : ℕ → ℕ → ℕ → List Edit
block at size offset = (at + 0x60 := size) ∷ (at + 0x64 := offset) ∷ []

-- the partition's hash block of that length, behind the bench image, with n words there; and the table's
unfoldable pub partition_block : ℕ → ℕ → List Edit → List ℕ
partition_block size n edits = longer n (block (in_header 0) size behind_word ++ edits)

unfoldable pub table_block : ℕ → ℕ → List Edit → List ℕ
table_block size n edits = longer n (block 0 size behind_word ++ edits)

-- the index of entry k: "entries of a 4-byte index and a 48-byte digest"
abbrev index : ℕ → ℕ → Edit
index k i = behind + 52 * k := i

-- 17: "length and offset both 0: no block. Only one 0: bad. Else the length is 52n rounded up to a multiple of 16, n from 1 to 33, the
-- block ends within the image, and exactly one entry has the own index. Padding isn't examined."
unfoldable pub block_cases : List Trial
block_cases =
    breaks 17 1 (words (in_header 0x60) (64 ∷ []) ++ words (in_header 0x64) (80 ∷ []))
    -- 52 rounded up is 64, and 104 is 112
    ++ breaks 17 1 (map (λ (size : ℕ). partition_block size 32 (index 0 1 ∷ [])) (1 ∷ 16 ∷ 48 ∷ 52 ∷ 63 ∷ 65 ∷ 80 ∷ 96 ∷ 104 ∷ 128 ∷ []))
    ++ keeps 17 (map (λ (size : ℕ). partition_block size 32 (index 0 1 ∷ [])) (64 ∷ 112 ∷ []))
    -- the last byte of its padding
    ++ keeps 17 (partition_block 64 16 (index 0 1 ∷ []) ∷ [])
    ++ breaks 17 1 (take 399 (partition_block 64 16 (index 0 1 ∷ [])) ∷ [])
    -- none of the own index, and two; the padding of one entry looks like a second
    ++ breaks 17 1 (map (λ (i : ℕ). partition_block 64 16 (index 0 i ∷ [])) (0 ∷ 2 ∷ 0x101 ∷ 0x01000000 ∷ []))
    ++ breaks 17 1
    (partition_block 112 28 (index 0 1 ∷ index 1 1 ∷ []) ∷ partition_block 112 28 (index 0 2 ∷ index 1 3 ∷ []) ∷ [])
    ++ keeps 17 (partition_block 64 16 (index 0 1 ∷ index 1 1 ∷ []) ∷ [])
    -- 33 entries, the own the last of them; 34
    ++ keeps 17 (partition_block 1728 432 (index 32 1 ∷ []) ∷ [])
    ++ breaks 17 1 (partition_block 1776 444 (index 0 1 ∷ []) ∷ [])

-- 17: "p = 0 for the table's own". "Index 0 is the meta header".
unfoldable pub table_block_cases : List Trial
table_block_cases =
    breaks 17 0 (words 0x60 (64 ∷ []) ++ words 0x64 (80 ∷ []))
    ++ keeps 17 (table_block 64 16 (index 0 0 ∷ []) ∷ table_block 112 28 (index 0 1 ∷ index 1 0 ∷ []) ∷ [])
    ++ breaks 17 0
    (take 399 (table_block 64 16 (index 0 0 ∷ []))
    ∷ table_block 64 16 (index 0 1 ∷ [])
    ∷ table_block 112 28 (index 0 0 ∷ index 1 0 ∷ [])
    -- the partition's is bad too
    ∷ table_block 64 16 (index 0 2 ∷ block (in_header 0) 64 behind_word)
    ∷ [])

-- accepted, with that hash entry in the row
abbrev entry_at : ℕ → Answered
entry_at at = with_row (row 0x00100000 0 0 at 0x04000001)

-- "byte offset of its hash entry (0 if none)"
unfoldable pub entry_cases : List ImageCase
entry_cases =
    at0 (partition_block 64 16 (index 0 1 ∷ [])) (entry_at 336)
    ∷ at0 (partition_block 64 16 (index 0 2 ∷ [])) (refused_with 17 1)
    ∷ at0 (table_block 64 16 (index 0 1 ∷ [])) (refused_with 17 0)
    ∷ at0 (table_block 64 16 []) as_given
    -- one block for both: "Two hash blocks are equal or disjoint."
    ∷ at0 (partition_block 112 28 (index 0 0 ∷ index 1 1 ∷ block 0 112 behind_word)) (entry_at 388)
    -- within the span, behind the body: "Each hash block is disjoint from all of them but spans"
    ∷ at0 (partition_block 64 16 (index 0 1 ∷ (in_header 0x8 := 20) ∷ []))
    (listing 1 80 (320 ∷ 80 ∷ 16 ∷ 0x00100000 ∷ 0 ∷ 0 ∷ 336 ∷ 0x04000001 ∷ []))
    ∷ []

-- 18: "these are disjoint: the boot header (full only), table with optional data, image headers, each partition header, each span. Each
-- hash block is disjoint from all of them but spans, and from each body. Two hash blocks are equal or disjoint. Touching isn't clashing."
-- The boot header's clash is among the cases that are run (crates/bench_cases).
unfoldable pub clash_cases : List Trial
clash_cases =
    -- optional data over the image header, a second image header over the partition header
    breaks 18 0 (words 0x58 (4 ∷ []) ++ words 0x4 (2 ∷ []))
    -- a span over the partition header, over the image header, over the table
    ++ breaks 18 0 (words (in_header 0x20) (79 ∷ 44 ∷ 28 ∷ []))
    -- a second span over the first, the image header over the second partition header
    ++ breaks 18 0 (two_partitions ((behind + 0x20 := 83) ∷ []) ∷ two_partitions ((0x8 := 100) ∷ []) ∷ [])
    -- a hash block over the table, the image header, the partition header, a body
    ++ breaks 18 0 (map (λ (offset : ℕ). longer 16 (block (in_header 0) 64 offset)) (16 ∷ 32 ∷ 48 ∷ 83 ∷ []))
    -- two hash blocks: one 16 bytes behind the other's begin; touching; equal
    ++ breaks 18 0 (table_block 64 32 (block (in_header 0) 64 88) ∷ [])
    ++ keeps 18 (table_block 64 32 (block (in_header 0) 64 100) ∷ table_block 64 32 (block (in_header 0) 64 behind_word) ∷ [])
    ++ keeps 18 (edited [] ∷ two_partitions [] ∷ [])
