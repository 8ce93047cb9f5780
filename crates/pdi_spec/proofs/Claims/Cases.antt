-- Claims: the limits' values, the size of six hash entries, the program's input, and the starred cases of the bench image. Assumes nothing.
use Rattle.std.specs.Prelude.{ℕ, ◌+◌, ◌≤◌, ◌<◌, List, ◌∷◌, ◌++◌, map, ◌↔◌, ◌⊎◌, ◌≡◌, refl, length, drop}
use Rattle.pdi_spec.specs.{Limits.longest_image, Limits.longest_program_image, Limits.most_images, Limits.most_partitions, Limits.most_entries, Limits.head_width, Limits.row_width, Limits.buffer_numbers, Limits.number_bytes, Limits.buffer_bytes, Limits.answer_unit, Limits.last_rule, HashBlock.size_of_entries, Answers.asked, Words.byte_at, Envelope.big_endian_at, Envelope.big_endian, Envelope.envelope_head, Envelope.bad, Envelope.holds, Envelope.envelope, Bench.Case, Bench.seen, Bench.starred}
use Rattle.pdi_spec.proofs.Laws

-- Document 01's limits, by their values.
pub limits_are : (longest_image ≡ 1_073_741_824) × (longest_program_image ≡ 65_527) × (most_images ≡ 32) × (most_partitions ≡ 32)
    × (most_entries ≡ 33) × (head_width ≡ 4) × (row_width ≡ 8) × (buffer_numbers ≡ 260) × (number_bytes ≡ 8) × (buffer_bytes ≡ 2080)
    × (answer_unit ≡ 64) × (last_rule ≡ 20)
limits_are = (refl, refl, refl, refl, refl, refl, refl, refl, refl, refl, refl, refl)

-- An envelope is bad exactly for another version, a longer stated length, or too few or too many bytes ..
pub envelope_bad_lem : (input : List ℕ)
    → (envelope input ≡ bad)
    ↔ ((byte_at input 0 ≡ 1 → ⊥)
    ⊎ ((longest_program_image < big_endian_at input 1) ⊎ (length input ≡ envelope_head + big_endian_at input 1 → ⊥)))
envelope_bad_lem = Laws.Envelope.envelope_bad_lem

-- .. and else it holds the bytes behind the first 9, and the place that bytes 5 to 8 state.
pub envelope_held : (input : List ℕ) → byte_at input 0 ≡ 1 → big_endian_at input 1 ≤ longest_program_image
    → length input ≡ envelope_head + big_endian_at input 1
    → envelope input ≡ holds (asked (drop envelope_head input) (big_endian_at input 5))
envelope_held = Laws.Envelope.envelope_held

-- "Block 0 of 004 has 320 bytes and 8 of padding, which is six entries".
pub six_entries : size_of_entries 6 ≡ 320
unfolding size_of_entries
six_entries = refl

-- An envelope made of version byte 1, an image of at most 65,527 bytes and a place holds that image and place.
pub made_envelope : (image : List ℕ) (place : ℕ) → length image ≤ longest_program_image → place < 0x1_0000_0000
    → envelope (1 ∷ big_endian (length image) ++ (big_endian place ++ image)) ≡ holds (asked image place)
made_envelope = Laws.Envelope.made_envelope

-- The starred cases answer, write and bill as document 01 says, by computation.
pub starred_cases : map seen starred ≡ map (λ (c : Case). c.says) starred
starred_cases = Laws.Bench.starred_cases
