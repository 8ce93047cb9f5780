-- What the program prints, gathered as Demands.antt gathers the three demands: each field is a sentence, restated whole from the
-- definitions. Assumes nothing, but that bytes are below 256 where a length is bounded.
use Rattle.std.specs.Prelude.{ℕ, ◌+◌, ◌/◌, ◌%◌, ◌≤◌, ◌<◌, ◌⊎◌, ◌≡◌, length, take, drop, get_or}
use mathlib.Core.List.{List, [], ◌∷◌, ◌++◌, Mem}
use Rattle.pdi_spec.specs.Answers.{read_answer, read_rows}
use Rattle.pdi_spec.specs.Envelope.{big_endian_at}
use Rattle.pdi_spec.specs.Words.{byte_at}
use Rattle.listing.specs.Decimal.{decimal, value}
use Rattle.listing.specs.Printed.{line, printed, row_lines}

-- Decimal numbers: digits alone, no leading zero, and read back they give the number.
pub record Decimals : Type 0 where
  pub reads_back : (n : ℕ) → value (decimal n) ≡ n
  pub no_leading_zero : (n : ℕ) → 1 ≤ n → (c : ℕ) × (text : List ℕ) × (decimal n ≡ c ∷ text) × (c ≡ 0x30 → ⊥)
  pub zero : decimal 0 ≡ 0x30 ∷ []
  pub digits : (n c : ℕ) → Mem c (decimal n) → (0x30 ≤ c) × (c ≤ 0x39)

pub record Printing : Type 0 where
  -- "It prints `envelope` for input of another version, a longer stated length, or too few or too many bytes."
  pub envelope : (input : List ℕ)
      → (byte_at input 0 ≡ 1 → ⊥) ⊎ ((65527 < big_endian_at input 1) ⊎ (length input ≡ 9 + big_endian_at input 1 → ⊥))
      → printed input ≡ 0x65 ∷ 0x6E ∷ 0x76 ∷ 0x65 ∷ 0x6C ∷ 0x6F ∷ 0x70 ∷ 0x65 ∷ 0x0A ∷ []
  -- For any other input, "number and p" of the image behind the first 9 bytes, at the place that bytes 5 to 8 state ..
  pub refused : (input : List ℕ) → byte_at input 0 ≡ 1 → big_endian_at input 1 ≤ 65527 → length input ≡ 9 + big_endian_at input 1
      → (rows : List ℕ) → 260 ≤ length rows → (read_answer (drop 9 input) (big_endian_at input 5) rows ≡ 0 → ⊥)
      → printed input
      ≡ line
      (read_answer (drop 9 input) (big_endian_at input 5) rows / 64 ∷ read_answer (drop 9 input) (big_endian_at input 5) rows % 64 ∷ [])
  -- .. and "if accepted, a line with the head and one line a partition".
  pub accepted : (input : List ℕ) → byte_at input 0 ≡ 1 → big_endian_at input 1 ≤ 65527 → length input ≡ 9 + big_endian_at input 1
      → (rows : List ℕ) → 260 ≤ length rows → read_answer (drop 9 input) (big_endian_at input 5) rows ≡ 0
      → printed input
      ≡ line (0 ∷ 0 ∷ [])
      ++ (line (take 4 (read_rows (drop 9 input) (big_endian_at input 5) rows))
      ++ row_lines (get_or (read_rows (drop 9 input) (big_endian_at input 5) rows) 2 0)
      (drop 4 (read_rows (drop 9 input) (big_endian_at input 5) rows)))
  -- At most 5,464 bytes are printed, and some for every input.
  pub longest : (input : List ℕ) → ((i : ℕ) → i < length input → get_or input i 0 < 256) → length (printed input) ≤ 5464
  pub some : (input : List ℕ) → 0 < length (printed input)
  -- Whoever reads 65,537 bytes or more of a longer input prints the same.
  pub cut : (input : List ℕ) (n : ℕ) → 65536 < n → n ≤ length input → printed (take n input) ≡ printed input
