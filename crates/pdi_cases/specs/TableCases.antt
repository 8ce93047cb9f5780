-- Document 01, rules 2 to 7 and 9: for each clause images that it refuses, and next to them what it takes. What is said of a case is
-- taken from document 01. Rule 1 is in Claims.antt, rule 8 in BootCases.antt. Assumes nothing.
use Rattle.std.specs.Prelude.{ℕ, ◌+◌, ◌*◌, List, [], ◌∷◌, ◌++◌, take}
use Rattle.pdi_spec.specs.Bench.{◌:=◌}
use Rattle.pdi_cases.specs.Images.{longer, edited, unsealed, words, behind, behind_word, table_behind}
use Rattle.pdi_cases.specs.Cases.{Trial, breaks, keeps, Answered, ImageCase, at0, refused_with, as_given}

-- the bench image at a place, and the image with the table behind it
abbrev at_place : ℕ → ℕ → Answered → ImageCase
at_place place rows says = record { image = edited []; place = place; rows = rows; says = says }

abbrev at_behind : List ℕ → Answered → ImageCase
at_behind image says = record { image = image; place = behind; rows = 260; says = says }

-- 2: "row buffer under 260 numbers". 3: "table place not a multiple of 4, or place + 128 past the image".
-- 9: "optional data or image headers past the image". "Optional data follow the table directly".
unfoldable pub place_cases : List ImageCase
place_cases =
    at_place 0 259 (refused_with 2 0)
    ∷ at_place 0 261 as_given
    ∷ at_place 1 260 (refused_with 3 0)
    ∷ at_place 3 260 (refused_with 3 0)
    ∷ at_place 4 260 (refused_with 4 0)
    ∷ at_behind (table_behind 0 []) as_given
    ∷ at_behind (take 463 (table_behind 0 [])) (refused_with 3 0)
    -- four words of optional data that end with the image, and an image of a byte less
    ∷ at_behind (table_behind 4 ((behind + 0x58 := 4) ∷ [])) as_given
    ∷ at_behind (take 479 (table_behind 4 ((behind + 0x58 := 4) ∷ []))) (refused_with 9 0)
    -- `FPDI`, 8: "the table place must be at least 4,416"; and "the lowest broken number is answered", here 6 and 4
    ∷ at0 (edited ((0x28 := 0x49445046) ∷ [])) (refused_with 8 0)
    ∷ at0 (edited ((0x28 := 0x49445046) ∷ (0x58 := 2) ∷ [])) (refused_with 6 0)
    ∷ at0 (unsealed ((0x28 := 0x49445046) ∷ [])) (refused_with 4 0)
    -- four words of optional data over the first image header, and another one behind the bench image
    ∷ at0 (longer 16 ((0x58 := 4) ∷ (0x8 := behind_word) ∷ (behind + 4 * 0 := 48) ∷ (behind + 4 * 1 := 1) ∷ (behind + 4 * 15 := 0x31) ∷ []))
    as_given
    ∷ []

-- 4: "table checksum isn't the sum of its first 31 words"; "Checksum sums are modulo 2^32".
unfoldable pub table_sum_cases : List Trial
table_sum_cases =
    -- the sum and one more; a word that no other rule looks at; the 31st word, with the sum of 30 words
    breaks 4 0 (unsealed ((0x7C := 0x496560C3) ∷ []) ∷ unsealed ((0x14 := 1) ∷ []) ∷ unsealed ((0x78 := 1) ∷ []) ∷ [])
    -- each with the sum of 31 words
    ++ keeps 4
    (unsealed []
    ∷ unsealed ((0x14 := 1) ∷ (0x7C := 0x496560C3) ∷ [])
    ∷ unsealed ((0x14 := 0xFFFFFFFF) ∷ (0x7C := 0x496560C1) ∷ [])
    ∷ unsealed ((0x78 := 1) ∷ (0x7C := 0x496560C3) ∷ [])
    ∷ [])

-- 5: "version not 0x00010000, or bytes at 0x28 neither `FPDI` nor `PPDI`".
unfoldable pub kind_cases : List Trial
kind_cases =
    breaks 5 0 (words 0x0 (0 ∷ 0x00010001 ∷ 0x00020000 ∷ 0x01010000 ∷ []))
    -- each byte of `PPDI` and of `FPDI` another, and `IDPP`
    ++ breaks 5 0 (words 0x28 (0x49445051 ∷ 0x49445150 ∷ 0x49455050 ∷ 0x4A445050 ∷ []))
    ++ breaks 5 0 (words 0x28 (0x49445047 ∷ 0x49445146 ∷ 0x49455046 ∷ 0x4A445046 ∷ 0x50504449 ∷ 0 ∷ []))
    ++ keeps 5 (words 0x28 (0x49445050 ∷ 0x49445046 ∷ []))

-- 6: "images or partitions not 1 to 32; in 0x2C, bits 0-7 not 32, 8-15 [..], or 16-23 not 32; optional words not a multiple of 4;
-- word 0x78 not 0"; document 02, CR 1, of bits 8-15: "Image header size must now be 16".
unfoldable pub field_cases : List Trial
field_cases =
    breaks 6 0 (words 0x4 (0 ∷ 33 ∷ 0x101 ∷ []))
    ++ keeps 6 (words 0x4 (1 ∷ 32 ∷ []))
    ++ breaks 6 0 (words 0xC (0 ∷ 33 ∷ 0x101 ∷ []))
    ++ keeps 6 (words 0xC (1 ∷ 32 ∷ []))
    ++ breaks 6 0 (words 0x2C (0x0020101F ∷ 0x00201021 ∷ 0x001F1020 ∷ 0x00211020 ∷ []))
    ++ breaks 6 0 (words 0x2C (0x00200020 ∷ 0x00200120 ∷ 0x00200F20 ∷ 0x00201120 ∷ 0x0020FF20 ∷ []))
    ++ keeps 6 (words 0x2C (0x00201020 ∷ 0xFF201020 ∷ []))
    ++ breaks 6 0 (words 0x58 (1 ∷ 2 ∷ 3 ∷ 5 ∷ 6 ∷ 7 ∷ 0xFFFFFFFF ∷ []))
    ++ keeps 6 (words 0x58 (4 ∷ 8 ∷ 0xFFFFFFFC ∷ []))
    ++ breaks 6 0 (words 0x78 (1 ∷ 0x80000000 ∷ []))

-- 7: "table key not 0 or a common key".
unfoldable pub table_key_cases : List Trial
table_key_cases =
    keeps 7
    (words 0x40
    (0xA5C3C5A3 ∷ 0xA5C3C5A5 ∷ 0xA5C3C5A7 ∷ 0x3A5C3C5A ∷ 0x3A5C3C59 ∷ 0x3A5C3C57 ∷ 0xA35C7C53 ∷ 0xA35C7CA5 ∷ 0 ∷ []))
    -- a bit of each another; a user key of each beginning
    ++ breaks 7 0
    (words 0x40
    (0xA5C3C5A2 ∷ 0xA5C3C5A4 ∷ 0xA5C3C5A6 ∷ 0x3A5C3C5B ∷ 0x3A5C3C58 ∷ 0x3A5C3C56 ∷ 0xA35C7C52 ∷ 0xA35C7CA4 ∷ 0x25C3C5A3
    ∷ 0xBA5C3C5A ∷ 0x235C7C53 ∷ 1 ∷ 0x5C3CA5A3 ∷ 0xC3A5C5A3 ∷ 0xC5C3A5A3 ∷ []))

-- 9: "optional data or image headers past the image". "Image headers lie one after another, images × size words".
unfoldable pub image_header_cases : List Trial
image_header_cases =
    -- 16 words that end with the image, and a word later; optional data that do, and four words more
    keeps 9 (words 0x8 (68 ∷ []))
    ++ breaks 9 0 (words 0x8 (69 ∷ 0xFFFFFFFF ∷ []))
    ++ keeps 9 (words 0x58 (52 ∷ []))
    ++ breaks 9 0 (words 0x58 (56 ∷ 0xFFFFFFFC ∷ []))
    -- of two image headers the last byte
    ++ keeps 9 (longer 32 ((0x4 := 2) ∷ (0x8 := behind_word) ∷ []) ∷ [])
    ++ breaks 9 0 (take 463 (longer 32 ((0x4 := 2) ∷ (0x8 := behind_word) ∷ [])) ∷ [])
    -- and of 32
    ++ keeps 9 (longer 512 ((0x4 := 32) ∷ (0x8 := behind_word) ∷ []) ∷ [])
    ++ breaks 9 0 (take 2383 (longer 512 ((0x4 := 32) ∷ (0x8 := behind_word) ∷ [])) ∷ [])
