-- Document 01, rules 10 to 15: for each clause images that it refuses, and next to them what it takes. What is said of a case is taken
-- from document 01. Assumes nothing.
use Rattle.std.specs.Prelude.{◌+◌, List, [], ◌∷◌, ◌++◌, take}
use Rattle.pdi_spec.specs.Bench.{◌:=◌, in_header}
use Rattle.pdi_cases.specs.Images.{longer, edited, unsealed, words, behind, behind_word, two_partitions}
use Rattle.pdi_cases.specs.Cases.{Trial, breaks, keeps, ImageCase, at0, refused_with, listing, row, with_row}

-- "The lowest broken number is answered, with the smallest p that breaks it. A rule is tried only if all lower ones hold for every
-- partition." The second of two partitions breaks 10, and 12 with the first or alone; the first breaks 12 and the second 14.
-- "Span: T words from D. Body: its first E words. Loaded bytes: 4U. Billed: 4 × the sum of all T."
unfoldable pub header_cases : List ImageCase
header_cases =
    at0 (two_partitions [])
    (record {
      answers = 0;
      writes =
          2 ∷ 1 ∷ 2 ∷ 20 ∷ 320 ∷ 16 ∷ 16 ∷ 0x00100000 ∷ 0 ∷ 0 ∷ 0 ∷ 0x04000001 ∷ 464 ∷ 4 ∷ 4 ∷ 0x00100010 ∷ 0 ∷ 0 ∷ 0 ∷ 0x04000001 ∷ [];
    })
    ∷ at0 (two_partitions ((behind + 0xC := behind_word) ∷ [])) (refused_with 10 2)
    ∷ at0 (two_partitions ((behind + 0x78 := 1) ∷ [])) (refused_with 12 2)
    ∷ at0 (two_partitions ((in_header 0x78 := 1) ∷ (behind + 0x78 := 1) ∷ [])) (refused_with 12 1)
    ∷ at0 (two_partitions ((in_header 0x4 := 0) ∷ (behind + 0x78 := 1) ∷ [])) (refused_with 12 2)
    -- U = 3, E = 5, T = 7
    ∷ at0 (longer 3 ((in_header 0x4 := 3) ∷ (in_header 0x0 := 5) ∷ (in_header 0x8 := 7) ∷ []))
    (listing 1 28 (320 ∷ 28 ∷ 12 ∷ 0x00100000 ∷ 0 ∷ 0 ∷ 0 ∷ 0x04000001 ∷ []))
    -- a common key and a user key are shown
    ∷ at0 (edited ((in_header 0x44 := 0xA5C3C5A3) ∷ [])) (with_row (row 0x00100000 0 0xA5C3C5A3 0 0x04000001))
    ∷ at0 (edited ((in_header 0x44 := 0xC3A5C573) ∷ [])) (with_row (row 0x00100000 0 0xC3A5C573 0 0x04000001))
    -- "Refusing bits 15:14 out of caution"
    ∷ at0 (edited ((in_header 0x24 := 0x0400C0C1) ∷ [])) (with_row (row 0x00100000 0 0 0 0x0400C0C1))
    ∷ []

-- 10: "header p past the image; next 0 at p < N; next not 0 at p = N".
unfoldable pub chain_cases : List Trial
chain_cases =
    -- a header that ends with the image, and a word later
    keeps 10 (words 0x10 (52 ∷ []))
    ++ breaks 10 1 (words 0x10 (53 ∷ 0xFFFFFFFF ∷ []))
    ++ breaks 10 1 (words 0xC (2 ∷ 32 ∷ []))
    ++ breaks 10 1 (words (in_header 0xC) (1 ∷ 0x80000000 ∷ []))
    -- of the second header the last byte; its next
    ++ keeps 10 (two_partitions [] ∷ take 464 (two_partitions []) ∷ [])
    ++ breaks 10 2 (take 463 (two_partitions []) ∷ two_partitions ((behind + 0xC := 1) ∷ []) ∷ [])

-- 11: "header checksum isn't the sum of its first 31 words"; "Checksum sums are modulo 2^32".
unfoldable pub header_sum_cases : List Trial
header_sum_cases =
    -- the sum and one more; a word that no other rule looks at; the 31st word, with the sum of 30 words
    breaks 11 1
    (unsealed ((in_header 0x7C := 0x0410005E) ∷ [])
    ∷ unsealed ((in_header 0x28 := 1) ∷ [])
    ∷ unsealed ((in_header 0x78 := 1) ∷ [])
    ∷ [])
    -- each with the sum of 31 words
    ++ keeps 11
    (unsealed []
    ∷ unsealed ((in_header 0x28 := 1) ∷ (in_header 0x7C := 0x0410005E) ∷ [])
    ∷ unsealed ((in_header 0x28 := 0xFFFFFFFF) ∷ (in_header 0x7C := 0x0410005C) ∷ [])
    ∷ unsealed ((in_header 0x78 := 1) ∷ (in_header 0x7C := 0x0410005E) ∷ [])
    ∷ [])

-- 12: "word 0x78 not 0, or attributes bad": "bits 31:29 at most 4; 28:27 are 0 or 3 [..]; 26:24 not 0; 22:21 zero; 20:19 are 0 or 3;
-- 17:16 are 0 or 1; 13:12 are 0 or 3; 11:8 are 0 to 6, 8 or 9; 5:4 are 0 or 3. Bits 15:14 and 7:6 have no stated value and aren't
-- examined." Nor are the other bits that this doesn't name.
unfoldable pub attribute_cases : List Trial
attribute_cases =
    breaks 12 1 (words (in_header 0x78) (1 ∷ 0x80000000 ∷ []))
    ++ breaks 12 1
    (words (in_header 0x24)
    -- 31:29, 28:27, 26:24, 22:21, 20:19, 17:16
    (0xA4000001 ∷ 0xC4000001 ∷ 0xE4000001 ∷ 0x0C000001 ∷ 0x14000001 ∷ 0x00000001 ∷ 0x04200001 ∷ 0x04400001 ∷ 0x04600001
    ∷ 0x04080001 ∷ 0x04100001 ∷ 0x04020001 ∷ 0x04030001
    -- 13:12, 11:8, 5:4
    ∷ 0x04001001 ∷ 0x04002001 ∷ 0x04000701 ∷ 0x04000A01 ∷ 0x04000B01 ∷ 0x04000C01 ∷ 0x04000D01 ∷ 0x04000E01 ∷ 0x04000F01
    ∷ 0x04000011 ∷ 0x04000021 ∷ []))
    ++ keeps 12
    (words (in_header 0x24)
    -- 31:29, 28:27, types 1 to 7, bit 23, 20:19, bit 18, 17:16
    (0x24000001 ∷ 0x44000001 ∷ 0x64000001 ∷ 0x84000001 ∷ 0x1C000001 ∷ 0x01000001 ∷ 0x02000001 ∷ 0x03000001 ∷ 0x04000001
    ∷ 0x05000001 ∷ 0x06000001 ∷ 0x07000001 ∷ 0x04800001 ∷ 0x04180001 ∷ 0x04040001 ∷ 0x04010001
    -- 15:14, 13:12, 11:8, 7:6, 5:4, the bits below
    ∷ 0x04004001 ∷ 0x04008001 ∷ 0x0400C001 ∷ 0x04003001 ∷ 0x04000101 ∷ 0x04000201 ∷ 0x04000301 ∷ 0x04000401 ∷ 0x04000501
    ∷ 0x04000601 ∷ 0x04000801 ∷ 0x04000901 ∷ 0x04000041 ∷ 0x04000081 ∷ 0x040000C1 ∷ 0x04000031 ∷ 0x04000000 ∷ 0x0400000F ∷ []))

-- 13: "key not 0, common or user".
unfoldable pub key_cases : List Trial
key_cases =
    keeps 13
    (words (in_header 0x44)
    (0xA5C3C5A3 ∷ 0xA5C3C5A5 ∷ 0xA5C3C5A7 ∷ 0x3A5C3C5A ∷ 0x3A5C3C59 ∷ 0x3A5C3C57 ∷ 0xA35C7C53 ∷ 0xA35C7CA5 ∷ 0x5C3CA5A3
    ∷ 0x5C3CA5A5 ∷ 0x5C3CA5A7 ∷ 0xC3A5C5A3 ∷ 0xC3A5C5A5 ∷ 0xC3A5C5A7 ∷ 0xC5C3A5A3 ∷ 0xC3A5C5B3 ∷ 0xC5C3A5C3 ∷ 0xC3A5C5D3
    ∷ 0xC5C3A5E3 ∷ 0xC3A5C5F3 ∷ 0xC5C3A563 ∷ 0xC3A5C573 ∷ 0 ∷ []))
    -- a bit of each another
    ++ breaks 13 1
    (words (in_header 0x44)
    (0xA5C3C5A2 ∷ 0xA5C3C5A4 ∷ 0xA5C3C5A6 ∷ 0x3A5C3C5B ∷ 0x3A5C3C58 ∷ 0x3A5C3C56 ∷ 0xA35C7C52 ∷ 0xA35C7CA4 ∷ 0x5C3CA5A2
    ∷ 0x5C3CA5A4 ∷ 0x5C3CA5A6 ∷ 0xC3A5C5A2 ∷ 0xC3A5C5A4 ∷ 0xC3A5C5A6 ∷ 0xC5C3A5A2 ∷ 0xC3A5C5B2 ∷ 0xC5C3A5C2 ∷ 0xC3A5C5D2
    ∷ 0xC5C3A5E2 ∷ 0xC3A5C5F2 ∷ 0xC5C3A562 ∷ 0xC3A5C572 ∷ 0x25C3C5A3 ∷ 0xDC3CA5A3 ∷ 1 ∷ []))

-- 14: "not 1 ≤ U ≤ E ≤ T; an actual size over its total": "E = word 0x0 [..], U = 0x4 [..], T = 0x8", all 4 in the bench image; "key
-- sizes 0x68 total and 0x6C actual, signature sizes 0x70 total and 0x74 actual".
unfoldable pub length_cases : List Trial
length_cases =
    breaks 14 1 (words (in_header 0x4) (0 ∷ 5 ∷ []))
    ++ keeps 14 (words (in_header 0x4) (1 ∷ 4 ∷ []))
    ++ breaks 14 1 (words (in_header 0x0) (3 ∷ 5 ∷ []))
    ++ breaks 14 1 (words (in_header 0x8) (3 ∷ []))
    ++ keeps 14 (words (in_header 0x8) (5 ∷ 0x40000000 ∷ []))
    ++ breaks 14 1 (words (in_header 0x6C) (1 ∷ []) ++ words (in_header 0x74) (1 ∷ []))
    ++ keeps 14 (words (in_header 0x68) (1 ∷ []) ++ words (in_header 0x70) (1 ∷ []))
    ++ keeps 14
    (edited ((in_header 0x68 := 2) ∷ (in_header 0x6C := 2) ∷ []) ∷ edited ((in_header 0x70 := 2) ∷ (in_header 0x74 := 2) ∷ []) ∷ [])
    ++ breaks 14 1
    (edited ((in_header 0x68 := 1) ∷ (in_header 0x6C := 2) ∷ []) ∷ edited ((in_header 0x70 := 1) ∷ (in_header 0x74 := 2) ∷ []) ∷ [])

-- 15: "span past the image; checksum type 3 and its 48 bytes past the image". "Multiplying words by 4 in 32 bits: T = 0x40000000
-- becomes 0."
unfoldable pub span_cases : List Trial
span_cases =
    breaks 15 1 (take 335 (edited []) ∷ words (in_header 0x20) (81 ∷ 0xFFFFFFFF ∷ []) ++ words (in_header 0x8) (5 ∷ 0x40000000 ∷ []))
    -- with no checksum type its offset isn't looked at
    ++ keeps 15 (words (in_header 0x2C) (73 ∷ 0xFFFFFFFF ∷ []))
    ++ keeps 15 (edited ((in_header 0x24 := 0x04003001) ∷ (in_header 0x2C := 72) ∷ []) ∷ [])
    ++ breaks 15 1 (edited ((in_header 0x24 := 0x04003001) ∷ (in_header 0x2C := 73) ∷ []) ∷ [])
    ++ keeps 15 (longer 12 ((in_header 0x24 := 0x04003001) ∷ (in_header 0x2C := behind_word) ∷ []) ∷ [])
    ++ breaks 15 1 (take 383 (longer 12 ((in_header 0x24 := 0x04003001) ∷ (in_header 0x2C := behind_word) ∷ [])) ∷ [])
