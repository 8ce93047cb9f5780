-- Document 01, "The words": bytes, 32-bit little-endian words, runs of words and their checksums, bit fields, byte strings.
-- Every reading is total: a byte past the end reads as 0. Assumes nothing; no definition asks that a byte is below 256.
use Rattle.std.specs.Prelude.{ℕ, suc, ◌+◌, ◌-◌, ◌*◌, ◌/◌, ◌%◌, ◌^◌, Bool, true, ◌&&◌, List, [], ◌∷◌, map, get_or, eqb}
use Rattle.pdi_spec.specs.Lists.{numbers, sum_of}

unfoldable pub byte_at : List ℕ → ℕ → ℕ
byte_at bytes at = get_or bytes at 0

-- "Words are 32-bit little-endian."
unfoldable pub word_at : List ℕ → ℕ → ℕ
word_at bytes at =
    byte_at bytes at + 0x100 * byte_at bytes (at + 1) + 0x10000 * byte_at bytes (at + 2) + 0x1000000 * byte_at bytes (at + 3)

-- n words one after another, from the byte offset `at` on
unfoldable pub run : List ℕ → ℕ → ℕ → List ℕ
run bytes at n = map (λ (i : ℕ). word_at bytes (at + 4 * i)) (numbers 0 n)

-- "Checksum sums are modulo 2^32": what the tables and headers store for a run of n words at `at`.
unfoldable pub checksum : List ℕ → ℕ → ℕ → ℕ
checksum bytes at n = sum_of (run bytes at n) % 2 ^ 32

-- Rule 8: "the two's complement negative of the sum", of a run of n words at `at`.
unfoldable pub boot_checksum : List ℕ → ℕ → ℕ → ℕ
boot_checksum bytes at n = (2 ^ 32 - sum_of (run bytes at n) % 2 ^ 32) % 2 ^ 32

-- the bits high to low of a word, as document 01 writes them: bits w 31 29
abbrev pub bits : ℕ → ℕ → ℕ → ℕ
bits word high low = word / 2 ^ low % 2 ^ (suc high - low)

-- the bytes from `at` on are those of the text
unfoldable pub spells : List ℕ → ℕ → List ℕ → Bool
spells bytes at [] = true
spells bytes at (c ∷ text) = eqb (byte_at bytes at) c && spells bytes (suc at) text
