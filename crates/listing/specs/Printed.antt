-- What the program prints, from the bytes of standard input to the bytes of standard output. Document 01: "It prints number and p; if
-- accepted, a line with the head and one line a partition. It prints `envelope` for input of another version, a longer stated length,
-- or too few or too many bytes." Assumes nothing.
use Rattle.std.specs.Prelude.{ℕ, zero, suc, ◌+◌, ◌*◌, ◌/◌, ◌%◌, cond, ltb, length, take, drop, get_or}
use mathlib.Core.List.{List, [], ◌∷◌, ◌++◌, flat_map}
use Rattle.pdi_spec.specs.Answers.{if_accepted, head, row_numbers, row_of}
use Rattle.pdi_spec.specs.Envelope.{Envelope, bad, holds, envelope, envelope_head}
use Rattle.pdi_spec.specs.File.{File, partition_numbers}
use Rattle.pdi_spec.specs.Limits.{longest_program_image, answer_unit, head_width, row_width, buffer_numbers}
use Rattle.pdi_spec.specs.RuleList.{plain_rules, without_buffer}
use Rattle.pdi_spec.specs.Verdict.{Rule, Outcome, accepted, refused, verdict}
use Rattle.listing.specs.Decimal.{decimal}

-- ---- a line of numbers

abbrev pub space : ℕ
space = 0x20

abbrev pub line_feed : ℕ
line_feed = 0x0A

-- numbers with one space between them
unfoldable pub spaced : List ℕ → List ℕ
spaced [] = []
spaced (n ∷ []) = decimal n
spaced (n ∷ m ∷ ns) = decimal n ++ (space ∷ spaced (m ∷ ns))

-- and a line feed after them
unfoldable pub line : List ℕ → List ℕ
line ns = spaced ns ++ (line_feed ∷ [])

-- ---- of an image

-- "number and p", "with number 0 for accepted", and p "0 where none is meant"
unfoldable pub number_and_p : Outcome → List ℕ
number_and_p accepted = 0 ∷ 0 ∷ []
number_and_p (refused number p) = number ∷ p ∷ []

-- "a line with the head and one line a partition"
unfoldable pub lines : File → List ℕ
lines f = line (head f) ++ flat_map (λ (p : ℕ). line (row_numbers (row_of f p))) (partition_numbers f)

-- By the question's own rules. The program's row buffer serves, so that rule 2 can't be broken.
unfoldable pub printed_of : List Rule → File → List ℕ
printed_of own f =
    line (number_and_p (verdict (without_buffer own) f)) ++ if_accepted (verdict (without_buffer own) f) (lines f) []

-- ---- of any input

-- `envelope` and a line feed, in ASCII
unfoldable pub envelope_text : List ℕ
envelope_text = 0x65 ∷ 0x6E ∷ 0x76 ∷ 0x65 ∷ 0x6C ∷ 0x6F ∷ 0x70 ∷ 0x65 ∷ line_feed ∷ []

-- by what the input holds
unfoldable pub printed_as : List Rule → Envelope → List ℕ
printed_as own bad = envelope_text
printed_as own (holds f) = printed_of own f

unfoldable pub printed_by : List Rule → List ℕ → List ℕ
printed_by own input = printed_as own (envelope input)

abbrev pub printed : List ℕ → List ℕ
printed = printed_by plain_rules

-- ---- limits

-- "The image is at most 65,527 bytes": with the bytes before it, the longest input that isn't too long
unfoldable pub longest_input : ℕ
longest_input = envelope_head + longest_program_image

-- a number of 64 bits has at most 20 digits
abbrev pub most_digits : ℕ
most_digits = 20

-- the first line of an acceptance, `0 0`, has 4 bytes; each of the 260 numbers has at most 20 digits, and one byte follows it
abbrev pub longest_printed : ℕ
longest_printed = 4 + (most_digits + 1) * buffer_numbers

-- ---- the function's answer and buffer, for any input and buffer: one under the longest text is left as found, and the answer is 0

unfoldable pub print_answer : List ℕ → List ℕ → ℕ
print_answer input out = cond (ltb (length out) longest_printed) 0 (length (printed input))

unfoldable pub print_buffer : List ℕ → List ℕ → List ℕ
print_buffer input out = cond (ltb (length out) longest_printed) out (printed input ++ drop (length (printed input)) out)

-- ---- the lines by what read answers and leaves in its row buffer

-- the first line: number and p, as the answer tells them
unfoldable pub answer_line : ℕ → List ℕ
answer_line r = line (r / answer_unit ∷ r % answer_unit ∷ [])

-- the lines of the n rows that come first
unfoldable pub row_lines : ℕ → List ℕ → List ℕ
row_lines zero rows = []
row_lines (suc n) rows = line (take row_width rows) ++ row_lines n (drop row_width rows)

-- the head's line, and a line for each of the partitions that the head counts
unfoldable pub buffer_lines : List ℕ → List ℕ
buffer_lines rows = line (take head_width rows) ++ row_lines (get_or rows 2 0) (drop head_width rows)
