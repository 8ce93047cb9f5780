-- Images made from the bench image, word by word, so that a case computes fast. Assumes nothing.
use Rattle.std.specs.Prelude.{ℕ, suc, ◌+◌, ◌-◌, ◌*◌, ◌/◌, ◌%◌, ◌^◌, take, drop, replicate}
use mathlib.Core.List.{List, [], ◌∷◌, ◌++◌, map, flat_map}
use Rattle.pdi_spec.specs.Lists.{sum_of}
use Rattle.pdi_spec.specs.Host.{le_bytes}
use Rattle.pdi_spec.specs.Bench.{Edit, ◌:=◌, in_image_header, in_header}

-- the bench image's words; Claims.antt says that they are its bytes
unfoldable pub bench_words : List ℕ
bench_words =
    -- the table
    0x00010000 ∷ 1 ∷ 32 ∷ 1 ∷ 48 ∷ 0 ∷ 0 ∷ 0 ∷ 0 ∷ 0 ∷ 0x49445050 ∷ 0x00201020 ∷ replicate 19 0
    -- its checksum, and the image header
    ++ (0x496560C2 ∷ 48 ∷ 1 ∷ replicate 13 0
    -- its checksum, and the partition header
    ++ (0x31 ∷ 4 ∷ 4 ∷ 4 ∷ 0 ∷ 0 ∷ 0 ∷ 0x00100000 ∷ 0 ∷ 80 ∷ 0x04000001 ∷ replicate 21 0
    -- its checksum, and the data
    ++ (0x0410005D ∷ 0x03020100 ∷ 0x07060504 ∷ 0x0B0A0908 ∷ 0x0F0E0D0C ∷ [])))

unfoldable pub bytes_of : List ℕ → List ℕ
bytes_of words = flat_map (le_bytes 4) words

-- words changed, each at its byte offset, a multiple of 4
unfoldable pub set : List ℕ → List Edit → List ℕ
set words [] = words
set words (e ∷ edits) = set (take (e.at / 4) words ++ (e.word ∷ drop (suc (e.at / 4)) words)) edits

-- the checksum put right behind n words at a byte offset; and of all headers of the bench image
unfoldable pub sealed : ℕ → ℕ → List ℕ → List ℕ
sealed n at words = set words ((at + 4 * n := sum_of (take n (drop (at / 4) words)) % 2 ^ 32) ∷ [])

unfoldable pub all_sealed : List ℕ → List ℕ
all_sealed words = sealed 31 0 (sealed 15 (in_image_header 0) (sealed 31 (in_header 0) words))

-- the bench image and n words 0 behind it, with words changed; its checksums put right, or as they were
unfoldable pub longer : ℕ → List Edit → List ℕ
longer n edits = bytes_of (all_sealed (set (bench_words ++ replicate n 0) edits))

unfoldable pub edited : List Edit → List ℕ
edited edits = longer 0 edits

unfoldable pub unsealed : List Edit → List ℕ
unsealed edits = bytes_of (set bench_words edits)

-- the bench image, once with each of the words at that offset
unfoldable pub words : ℕ → List ℕ → List (List ℕ)
words at list = map (λ (w : ℕ). edited ((at := w) ∷ [])) list

-- the first byte behind the bench image, and its first word
abbrev pub behind : ℕ
behind = 336

abbrev pub behind_word : ℕ
behind_word = 84

-- in the header of image i of two that lie at word 117, its word w
abbrev pub in_image : ℕ → ℕ → ℕ
in_image i w = 4 * 117 + 64 * (i - 1) + 4 * w

-- the bench image with a second table, equal to its first, behind it, n words 0 behind that, and words changed
unfoldable pub table_behind : ℕ → List Edit → List ℕ
table_behind n edits = bytes_of (sealed 31 behind (set (bench_words ++ (take 32 bench_words ++ replicate n 0)) edits))

-- "Second partition of one word (header at word 84, data at 116, image 468 bytes), loaded at 0x00100010"; both are the first image's
unfoldable pub two_words : List ℕ
two_words =
    set (bench_words ++ (1 ∷ 1 ∷ 1 ∷ 0 ∷ 0 ∷ 0 ∷ 0x00100010 ∷ 0 ∷ 116 ∷ 0x04000001 ∷ replicate 23 0))
    ((0xC := 2) ∷ (in_image_header (4 * 1) := 2) ∷ (in_header 0xC := behind_word) ∷ [])

-- that image, with words changed
unfoldable pub two_partitions : List Edit → List ℕ
two_partitions edits = bytes_of (all_sealed (sealed 31 behind (set two_words edits)))

-- the same with two image headers behind it, at word 117: each image owns one partition; and what is changed
unfoldable pub two_images : List Edit → List ℕ
two_images edits =
    bytes_of
    (sealed 15 (in_image 1 0)
    (sealed 15 (in_image 2 0)
    (all_sealed
    (sealed 31 behind
    (set (two_words ++ (48 ∷ 1 ∷ replicate 14 0 ++ (behind_word ∷ 1 ∷ replicate 14 0))) ((0x4 := 2) ∷ (0x8 := 117) ∷ edits))))))
