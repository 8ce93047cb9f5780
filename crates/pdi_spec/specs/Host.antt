-- Document 01: "The metering host is written in C and calls read and bill on plain numbers and byte slices, with the same
-- answers. Its rows lie in bytes, 8 to a number, little-endian; number 2 there means under 2,080 bytes." Assumes nothing.
-- The host's bill is bill's own answer, `bill_answer`.
use Rattle.std.specs.Prelude.{ℕ, zero, suc, ◌+◌, ◌*◌, ◌/◌, ◌%◌, length, take, drop}
use mathlib.Core.List.{List, [], ◌∷◌, ◌++◌, flat_map}
use Rattle.pdi_spec.specs.Limits.{number_bytes}
use Rattle.pdi_spec.specs.File.{File}
use Rattle.pdi_spec.specs.Verdict.{Rule, verdict}
use Rattle.pdi_spec.specs.RuleList.{plain_rules, with_host_rows}
use Rattle.pdi_spec.specs.Answers.{answer, written, asked}

-- the lowest n bytes of a number, the least first
unfoldable pub le_bytes : ℕ → ℕ → List ℕ
le_bytes zero number = []
le_bytes (suc n) number = number % 256 ∷ le_bytes n (number / 256)

-- the number that bytes state, the least first
unfoldable pub le_number : List ℕ → ℕ
le_number [] = 0
le_number (b ∷ bytes) = b + 256 * le_number bytes

-- the first n numbers of the host's row buffer, and all that it has room for
unfoldable pub numbers_from : ℕ → List ℕ → List ℕ
numbers_from zero bytes = []
numbers_from (suc n) bytes = le_number (take number_bytes bytes) ∷ numbers_from n (drop number_bytes bytes)

unfoldable pub host_numbers : List ℕ → List ℕ
host_numbers bytes = numbers_from (length bytes / number_bytes) bytes

-- what an acceptance writes, 8 bytes to a number
unfoldable pub written_bytes : List Rule → File → List ℕ
written_bytes rs f = flat_map (le_bytes number_bytes) (written rs f)

-- the row buffer after a call: the first 8 × (4 + 8N) bytes, where accepted, and else as found
unfoldable pub bytes_after : List Rule → File → List ℕ → List ℕ
bytes_after rs f rows = written_bytes rs f ++ drop (length (written_bytes rs f)) rows

-- a question in the host's form, given by its own rules of the image
unfoldable pub host_read_by : List Rule → List ℕ → ℕ → List ℕ → ℕ
host_read_by own image place rows = answer (verdict (with_host_rows (length rows) own) (asked image place))

unfoldable pub host_rows_by : List Rule → List ℕ → ℕ → List ℕ → List ℕ
host_rows_by own image place rows = bytes_after (with_host_rows (length rows) own) (asked image place) rows

-- plain reading
abbrev pub host_answer : List ℕ → ℕ → List ℕ → ℕ
host_answer = host_read_by plain_rules

abbrev pub host_rows : List ℕ → ℕ → List ℕ → List ℕ
host_rows = host_rows_by plain_rules
