-- Document 01: "A program reads standard input: version byte 1, image length (4 bytes, big-endian), table place (4 bytes,
-- big-endian), the image. The image is at most 65,527 bytes. [..] It prints `envelope` for input of another version, a longer
-- stated length, or too few or too many bytes." Assumes nothing.
use Rattle.std.specs.Prelude.{ℕ, ◌+◌, ◌*◌, Bool, cond, not, ◌||◌, List, reverse, length, drop, ltb, eqb}
use Rattle.pdi_spec.specs.Limits.{longest_program_image}
use Rattle.pdi_spec.specs.File.{File}
use Rattle.pdi_spec.specs.Words.{byte_at}
use Rattle.pdi_spec.specs.Host.{le_bytes}

-- what the input holds: bad, or an image and a place
pub data Envelope : Type 0 where
  bad : Envelope
  holds : File → Envelope

-- 4 bytes, the most significant first
unfoldable pub big_endian_at : List ℕ → ℕ → ℕ
big_endian_at input at =
    0x1000000 * byte_at input at + 0x10000 * byte_at input (at + 1) + 0x100 * byte_at input (at + 2) + byte_at input (at + 3)

-- a number as such 4 bytes
unfoldable pub big_endian : ℕ → List ℕ
big_endian number = reverse (le_bytes 4 number)

-- version byte, image length, table place
unfoldable pub envelope_head : ℕ
envelope_head = 9

-- "input of another version, a longer stated length, or too few or too many bytes"
unfoldable pub envelope_bad : List ℕ → Bool
envelope_bad input =
    not (eqb (byte_at input 0) 1)
    || ltb longest_program_image (big_endian_at input 1)
    || not (eqb (length input) (envelope_head + big_endian_at input 1))

unfoldable pub envelope : List ℕ → Envelope
envelope input =
    cond (envelope_bad input) bad (holds (record { bytes = drop envelope_head input; place = big_endian_at input 5 }))
