-- What is claimed of decimal text and of what the program prints, each proved by a law from Laws/. The laws are about any question that is
-- as Supported says. Assumes nothing.
use Rattle.std.specs.Prelude.{ℕ, ◌/◌, ◌%◌, ◌≤◌, ◌<◌, ◌≡◌, refl, length, take, drop, get_or}
use mathlib.Core.List.{List, [], ◌∷◌, ◌++◌, Mem}
use Rattle.std.proofs.Common.{◌∙◌}
use Rattle.std.proofs.Math.Path.{ap}
use Rattle.pdi_spec.specs.{Limits.answer_unit, Limits.head_width, Limits.buffer_numbers, File.File, RuleList.plain_rules, Answers.read_answer, Answers.read_rows, Envelope.bad, Envelope.holds, Envelope.envelope, Envelope.envelope_head}
use Rattle.pdi_spec.proofs.Laws.Plain.{plain}
use Rattle.listing.specs.Decimal.{digit, digits_up_to, decimal, value}
use Rattle.listing.specs.Printed.{line, printed, envelope_text, longest_input, longest_printed, print_answer, answer_line, row_lines, buffer_lines}
use Rattle.listing.proofs.Laws

-- ---- decimal text

-- Read back, it gives the number.
pub decimal_reads_back : (n : ℕ) → value (decimal n) ≡ n
decimal_reads_back = Laws.Decimal.reads_back

-- No number but 0 begins with the digit 0 ..
pub no_leading_zero : (n : ℕ) → 1 ≤ n → (c : ℕ) × (text : List ℕ) × (decimal n ≡ c ∷ text) × (c ≡ 0x30 → ⊥)
no_leading_zero = Laws.Decimal.leading

-- .. and 0 is that digit alone.
pub zero_is_one_digit : decimal 0 ≡ 0x30 ∷ []
unfolding decimal digits_up_to digit
zero_is_one_digit = refl

-- Every byte is a digit, 0x30 to 0x39.
pub digits_only : (n c : ℕ) → Mem c (decimal n) → (0x30 ≤ c) × (c ≤ 0x39)
digits_only = Laws.Decimal.each_digit

-- ---- lengths

-- Where each byte of the input is below 256, at most 5,464 bytes are printed.
pub printed_longest : (input : List ℕ) → ((i : ℕ) → i < length input → get_or input i 0 < 256) → length (printed input) ≤ longest_printed
printed_longest input bytes = Laws.Printed.longest plain input (Laws.Printed.all_bytes input bytes)

pub longest_is : longest_printed ≡ 5464
longest_is = refl

-- Something is printed for every input, so that the function's answer is 0 for a short buffer alone.
pub printed_some : (input : List ℕ) → 0 < length (printed input)
printed_some = Laws.Printed.some_printed plain_rules

-- The function's answer is at most its buffer's length.
pub answer_within : (input out : List ℕ) → ((i : ℕ) → i < length input → get_or input i 0 < 256) → print_answer input out ≤ length out
answer_within input out bytes = Laws.Printed.answer_within input out (Laws.Printed.all_bytes input bytes)

-- ---- bad input

-- For any bad input it is the one word.
pub printed_bad : (input : List ℕ) → envelope input ≡ bad → printed input ≡ envelope_text
printed_bad = Laws.Printed.printed_bad plain_rules

-- An input over 65,536 bytes is bad ..
pub too_long_is_envelope : (input : List ℕ) → longest_input < length input → printed input ≡ envelope_text
too_long_is_envelope input h = printed_bad input (Laws.Printed.too_long input h)

pub longest_input_is : longest_input ≡ 65536
unfolding longest_input envelope_head
longest_input_is = refl

-- .. so a program that reads 65,537 bytes, or any more, and leaves the rest unread prints the same.
pub cut_prints_same : (input : List ℕ) (n : ℕ) → longest_input < n → n ≤ length input → printed (take n input) ≡ printed input
cut_prints_same = Laws.Printed.cut_printed plain_rules

-- ---- by what read answers for the image, with any row buffer that serves

module _ (input : List ℕ) (f : File) (e : envelope input ≡ holds f) (rows : List ℕ) (serves : buffer_numbers ≤ length rows) where
  -- Where it refuses, number and p are all.
  pub printed_refused : (read_answer f.bytes f.place rows ≡ 0 → ⊥)
      → printed input ≡ line (read_answer f.bytes f.place rows / answer_unit ∷ read_answer f.bytes f.place rows % answer_unit ∷ [])
  unfolding answer_line
  printed_refused n =
      Laws.Printed.printed_holds plain_rules input f e ∙ Laws.Buffers.refused_lines plain f.bytes f.place rows serves n

  -- Where it accepts, they are 0 and 0, and a line with the head that read wrote follows and a line for each of its rows.
  pub printed_accepted : read_answer f.bytes f.place rows ≡ 0
      → printed input
      ≡ line (0 ∷ 0 ∷ [])
      ++ (line (take head_width (read_rows f.bytes f.place rows))
      ++ row_lines (get_or (read_rows f.bytes f.place rows) 2 0) (drop head_width (read_rows f.bytes f.place rows)))
  unfolding buffer_lines answer_line
  printed_accepted z =
      Laws.Printed.printed_holds plain_rules input f e
      ∙ Laws.Buffers.accepted_lines plain f.bytes f.place rows serves z
      ∙ ap (λ (r : ℕ). answer_line r ++ buffer_lines (read_rows f.bytes f.place rows)) z
