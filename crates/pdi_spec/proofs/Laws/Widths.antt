-- Where each byte of an image is below 256, each number of its head and rows is below 2^64. Of the bill it is asked that there are at most
-- 32 partitions. Assumes nothing.
use Prim.Native.Nat.{ℕ, zero, suc, ◌+◌, ◌*◌, ◌/◌, ◌^◌, ◌≤◌, ◌<◌}
use Rattle.std.proofs.Common.{mul-suc}
use native.Mathlib.Omega.{arith}
use Rattle.std.specs.Prelude.{Bool, true, false, cond, get_or}
use mathlib.Core.List.{List, map, flat_map}
use Rattle.std.proofs.Math.Option.{Option-elim, some}
use Rattle.pdi_spec.specs.{Limits.most_partitions, Lists.numbers, Lists.sum_of, Lists.first_of, Words.byte_at, Words.word_at, Words.spells, Headers.Block, Headers.block_from, Headers.FPDI, Headers.PPDI, Headers.kind_from, Headers.table_from, Headers.header_from, File.File, File.table, File.partitions, File.partition_numbers, File.header_at, File.header, File.hash_block, HashBlock.entries_in, HashBlock.entry_at, HashBlock.has_index, HashBlock.entry_numbers, HashBlock.hash_entry_in, Ranges.span, Ranges.load_range, Answers.row_numbers, Answers.hash_entry, Answers.row_of, Answers.billed, Answers.head, Answers.head_and_rows}
use Rattle.pdi_spec.proofs.Laws.{Lists.Every, Lists.every_append}

-- ---- sums and searches

-- n numbers, each at most `most`
sum_short : (most : ℕ) (g : ℕ → ℕ) → ((p : ℕ) → g p ≤ most) → (a n : ℕ) → sum_of (map g (numbers a n)) ≤ most * n
unfolding sum_of numbers
sum_short most g h a zero = omega arith
sum_short most g h a (suc n) = omega (arith, h a, sum_short most g h (suc a) n, mul-suc most n)

-- an entry that was found is one of those that were looked at
entry_short : (b : Block) (test : ℕ → Bool) (a n : ℕ)
    → Option-elim (first_of test (numbers a n)) 0 (entry_at b) ≤ 4 * b.offset + 52 * (a + n)
unfolding first_of numbers entry_at Option-elim
entry_short b test a zero = omega arith
entry_short b test a (suc n) = go (test a) (entry_short b test (suc a) n)
  where
    go : (t : Bool) → Option-elim (first_of test (numbers (suc a) n)) 0 (entry_at b) ≤ 4 * b.offset + 52 * (suc a + n)
        → Option-elim (cond t (some a) (first_of test (numbers (suc a) n))) 0 (entry_at b) ≤ 4 * b.offset + 52 * (a + suc n)
    go true h = omega arith
    go false h = omega arith

-- kind is 0, 1 or 2
kind_short : (bytes : List ℕ) (at : ℕ) → kind_from bytes at ≤ 2
unfolding kind_from
kind_short bytes at = go (spells bytes at FPDI) (spells bytes at PPDI)
  where
    go : (s t : Bool) → cond s 1 (cond t 2 0) ≤ 2
    go true t = omega arith
    go false true = omega arith
    go false false = omega arith

-- ---- of an image of bytes

module _ (f : File) (bytes : (i : ℕ) → get_or f.bytes i 0 < 256) where
  word_short : (at : ℕ) → word_at f.bytes at < 2 ^ 32
  unfolding word_at byte_at
  word_short at = omega (arith, bytes at, bytes (at + 1), bytes (at + 2), bytes (at + 3))

  hash_short : (at i : ℕ) → hash_entry_in f.bytes (block_from f.bytes at) i < 2 ^ 64
  unfolding hash_entry_in entry_numbers entries_in block_from
  hash_short at i =
      omega (
        arith,
        entry_short (block_from f.bytes at) (has_index f.bytes (block_from f.bytes at) i) 0
            (word_at f.bytes (at + 0x60) / 52),
        word_short (at + 0x60),
        word_short (at + 0x64),
      )

  pub row_narrow : (p : ℕ) → Every (λ (n : ℕ). n < 2 ^ 64) (row_numbers (row_of f (suc p)))
  unfolding row_numbers row_of span load_range header header_from hash_entry hash_block
  row_narrow p =
      let at = header_at f (suc p) in (
        omega (arith, word_short (at + 0x20)),
        (
          omega (arith, word_short (at + 0x8)),
          (
            omega (arith, word_short (at + 0x4)),
            (
              omega (arith, word_short (at + 0x18), word_short (at + 0x1C)),
              (
                omega (arith, word_short (at + 0x10), word_short (at + 0x14)),
                (
                  omega (arith, word_short (at + 0x44)),
                  (
                    hash_short at (suc p),
                    (omega (arith, word_short (at + 0x24)), tt),
                  ),
                ),
              ),
            ),
          ),
        ),
      )

  pub head_narrow : partitions f ≤ most_partitions → Every (λ (n : ℕ). n < 2 ^ 64) (head f)
  unfolding head table table_from partitions billed partition_numbers header header_from
  head_narrow h =
      let at = f.place in
      let total : ℕ → ℕ = λ p. word_at f.bytes (header_at f p + 0x8) in
      let sum = sum_short (2 ^ 32) total (λ p. omega (arith, word_short (header_at f p + 0x8))) 1 (word_at f.bytes (at + 0xC)) in (
        omega (arith, kind_short f.bytes (at + 0x28)),
        (omega (arith, word_short (at + 0x4)), (omega (arith, word_short (at + 0xC)), (omega (arith, sum), tt))),
      )

  -- so is each of the head and the rows
  abbrev Narrow : List ℕ → Type 0
  Narrow ns = Every (λ (n : ℕ). n < 2 ^ 64) ns

  rows_narrow : (a n : ℕ) → Narrow (flat_map (λ (p : ℕ). row_numbers (row_of f p)) (numbers (suc a) n))
  unfolding numbers flat_map
  rows_narrow a zero = tt
  rows_narrow a (suc n) = every_append _ (row_numbers (row_of f (suc a))) _ (row_narrow a) (rows_narrow (suc a) n)

  pub all_narrow : partitions f ≤ most_partitions → Every (λ (n : ℕ). n < 2 ^ 64) (head_and_rows f)
  unfolding head_and_rows partition_numbers
  all_narrow h = every_append _ (head f) _ (head_narrow h) (rows_narrow 0 (partitions f))
