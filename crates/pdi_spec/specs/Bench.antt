-- Document 01, "The bench image": the image, and its starred cases with what document 01 says of each. Assumes nothing.
-- Claims.antt says that the definitions give just that.
use Rattle.std.specs.Prelude.{ℕ, ◌+◌, ◌*◌, List, [], ◌∷◌, ◌++◌, take, drop, replicate}
use Rattle.pdi_spec.specs.Lists.{numbers}
use Rattle.pdi_spec.specs.Words.{checksum}
use Rattle.pdi_spec.specs.Host.{le_bytes}
use Rattle.pdi_spec.specs.Verdict.{verdict}
use Rattle.pdi_spec.specs.RuleList.{plain_rules, without_buffer, with_rows}
use Rattle.pdi_spec.specs.Answers.{answer, written, bill_under, asked}

-- a word stored at a byte offset
pub record Edit : Type 0 where
  pub at : ℕ
  pub word : ℕ

abbrev pub ◌:=◌ : ℕ → ℕ → Edit
at := word = record { at = at; word = word }

infix 10 ◌:=◌
unfoldable pub put : List ℕ → List Edit → List ℕ
put bytes [] = bytes
put bytes (e ∷ edits) = put (take e.at bytes ++ (le_bytes 4 e.word ++ drop (e.at + 4) bytes)) edits

-- "336 bytes, place 0. [..] 0x8 = 32 [..] Header at word 48 [..] Data: bytes 0 to 15." The offsets in bytes of the image header and of the
-- partition header, with an offset in it:
unfoldable pub in_image_header : ℕ → ℕ
in_image_header offset = 4 * 32 + offset

unfoldable pub in_header : ℕ → ℕ
in_header offset = 4 * 48 + offset

-- "Table: version; images 1; 0x8 = 32; partitions 1; 0x10 = 48; `PPDI`; 0x2C = 0x00201020; checksum 0x496560C2. [..] Header [..]: E = U =
-- T = 4, load 0x00100000, D = 80, attributes 0x04000001, checksum 0x0410005D. All else 0." Document 02, CR 1: in the image header, "words
-- 0, 1 and 15 become 48, 1 [..] and 0x31".
unfoldable pub bench_image : List ℕ
bench_image =
    put (replicate 320 0)
    ((0x0 := 0x00010000)
    ∷ (0x4 := 1)
    ∷ (0x8 := 32)
    ∷ (0xC := 1)
    ∷ (0x10 := 48)
    ∷ (0x28 := 0x49445050)
    ∷ (0x2C := 0x00201020)
    ∷ (0x7C := 0x496560C2)
    ∷ (in_image_header (4 * 0) := 48)
    ∷ (in_image_header (4 * 1) := 1)
    ∷ (in_image_header (4 * 15) := 0x31)
    ∷ (in_header 0x0 := 4)
    ∷ (in_header 0x4 := 4)
    ∷ (in_header 0x8 := 4)
    ∷ (in_header 0x18 := 0x00100000)
    ∷ (in_header 0x20 := 80)
    ∷ (in_header 0x24 := 0x04000001)
    ∷ (in_header 0x7C := 0x0410005D)
    ∷ [])
    ++ numbers 0 16

-- the checksum put right behind a run of n words at a byte offset
unfoldable pub righted : List ℕ → ℕ → ℕ → List ℕ
righted bytes at n = put bytes ((at + 4 * n := checksum bytes at n) ∷ [])

-- "checksums are put right after each edit"
unfoldable pub edited : List Edit → List ℕ
edited edits = righted (righted (righted (put bench_image edits) 0 31) (in_image_header 0) 15) (in_header 0) 31

-- what is seen of a case: read's answer, the numbers that it writes, and the bill
pub record Seen : Type 0 where
  pub answers : ℕ
  pub writes : List ℕ
  pub bills : ℕ

-- an image, a place and a row buffer's length, and what document 01 says
pub record Case : Type 0 where
  pub image : List ℕ
  pub place : ℕ
  pub rows : ℕ
  pub says : Seen

unfoldable pub seen : Case → Seen
seen c =
    record {
      answers = answer (verdict (with_rows c.rows plain_rules) (asked c.image c.place));
      writes = written (with_rows c.rows plain_rules) (asked c.image c.place);
      bills = bill_under (without_buffer plain_rules) (asked c.image c.place);
    }

-- refused with a number and a p
abbrev pub refused_with : ℕ → ℕ → Seen
refused_with number p = record { answers = 64 * number + p; writes = []; bills = 0 }

-- the bench image's listing, at a load address
abbrev pub accepted_at : ℕ → Seen
accepted_at load =
    record {
      answers = 0;
      writes = 2 ∷ 1 ∷ 1 ∷ 16 ∷ 320 ∷ 16 ∷ 16 ∷ load ∷ 0 ∷ 0 ∷ 0 ∷ 67108865 ∷ [];
      bills = 16;
    }

-- a case at place 0 with rows enough
abbrev pub at0 : List ℕ → Seen → Case
at0 image says = record { image = image; place = 0; rows = 260; says = says }

-- the bench image at a place
abbrev pub at_place : ℕ → ℕ → Seen → Case
at_place place rows says = record { image = bench_image; place = place; rows = rows; says = says }

-- The starred cases, each under document 01's own words for it.
unfoldable pub starred : List Case
starred =
    -- as given: accepted
    at0 bench_image (accepted_at 1048576)
    -- Empty image: 3
    ∷ at0 [] (refused_with 3 0)
    -- Place 2: 3
    ∷ at_place 2 260 (refused_with 3 0)
    -- Place 208: 4
    ∷ at_place 208 260 (refused_with 4 0)
    -- place 212: 3
    ∷ at_place 212 260 (refused_with 3 0)
    -- Rows of 259 and place 2: 2
    ∷ at_place 2 259 (refused_with 2 0)
    -- Partitions 0: 6
    ∷ at0 (edited ((0xC := 0) ∷ [])) (refused_with 6 0)
    -- 33: 6
    ∷ at0 (edited ((0xC := 33) ∷ [])) (refused_with 6 0)
    -- Table key 0x5C3CA5A3: 7
    ∷ at0 (edited ((0x40 := 0x5C3CA5A3) ∷ [])) (refused_with 7 0)
    -- Next 48: 10, p 1
    ∷ at0 (edited ((in_header 0xC := 48) ∷ [])) (refused_with 10 1)
    -- Attribute type 0: 12
    ∷ at0 (edited ((in_header 0x24 := 0x00000001) ∷ [])) (refused_with 12 1)
    -- U = 5: 14
    ∷ at0 (edited ((in_header 0x4 := 5) ∷ [])) (refused_with 14 1)
    -- T = 5: 15
    ∷ at0 (edited ((in_header 0x8 := 5) ∷ [])) (refused_with 15 1)
    -- Load high 0xFFFFFFFF, low 0xFFFFFFF0: accepted
    ∷ at0 (edited ((in_header 0x1C := 0xFFFFFFFF) ∷ (in_header 0x18 := 0xFFFFFFF0) ∷ [])) (accepted_at 0xFFFFFFFFFFFFFFF0)
    -- low 0xFFFFFFF1: 16
    ∷ at0 (edited ((in_header 0x1C := 0xFFFFFFFF) ∷ (in_header 0x18 := 0xFFFFFFF1) ∷ [])) (refused_with 16 1)
    -- D = 79: 18
    ∷ at0 (edited ((in_header 0x20 := 79) ∷ [])) (refused_with 18 0)
    ∷ []
