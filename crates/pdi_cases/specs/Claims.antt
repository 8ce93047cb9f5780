-- The definitions give, for each clause of the rules, what document 01 says of images at its limits: so a mistake made in a definition and
-- in the code alike shows here. Each claim is closed by computation. Assumes nothing.
use Rattle.std.specs.Prelude.{ℕ, true, false, List, [], ◌∷◌, map, ◌≡◌, refl, length, replicate}
use Rattle.pdi_spec.specs.Words.{boot_checksum}
use Rattle.pdi_spec.specs.Headers.{boot_from}
use Rattle.pdi_spec.specs.Verdict.{verdict}
use Rattle.pdi_spec.specs.Rules.{image_too_long, boot_header_bad}
use Rattle.pdi_spec.specs.RuleList.{plain_rules, with_host_rows}
use Rattle.pdi_spec.specs.Answers.{answer, asked}
use Rattle.pdi_spec.specs.Bench.{Edit, ◌:=◌, bench_image}
use Rattle.pdi_spec.proofs.Laws.Bench.{opened}
use Rattle.pdi_cases.specs.Images.{bench_words, bytes_of, set, edited}
use Rattle.pdi_cases.specs.Cases.{computed, Trial, tried, breaks, keeps, ImageCase, answered}
use Rattle.pdi_cases.specs.TableCases.{place_cases, table_sum_cases, kind_cases, field_cases, table_key_cases, image_header_cases}
use Rattle.pdi_cases.specs.BootCases.{BootCase, boot_cases}
use Rattle.pdi_cases.specs.HeaderCases.{header_cases, chain_cases, header_sum_cases, attribute_cases, key_cases, length_cases, span_cases}
use Rattle.pdi_cases.specs.LoadCases.{loaded_at, no_load_cases, load_cases, address_cases, load_clash_cases}
use Rattle.pdi_cases.specs.BlockCases.{partition_block, table_block, block_cases, table_block_cases, entry_cases, clash_cases}

-- The images are made from document 01's.
pub bench_words_lem : bytes_of bench_words ≡ bench_image
unfolding computed
bench_words_lem = refl

-- 1: "image longer than 1,073,741,824 bytes".
pub longest_taken : (image : List ℕ) (place : ℕ) → length image ≡ 1_073_741_824 → image_too_long (asked image place) ≡ false
unfolding opened
longest_taken image place long = rw long

pub one_byte_more : (image : List ℕ) (place : ℕ) → length image ≡ 1_073_741_825 → image_too_long (asked image place) ≡ true
unfolding opened
one_byte_more image place long = rw long

-- "number 2 there means under 2,080 bytes"
pub host_buffer : map (λ (n : ℕ). answer (verdict (with_host_rows n plain_rules) (asked (edited []) 0))) (2079 ∷ 2080 ∷ []) ≡ 128 ∷ 0 ∷ []
unfolding computed
host_buffer = refl

-- ---- 8: the boot header

-- a word for each of its fields, and some that rule 8 doesn't name
abbrev boot_words : List Edit
boot_words =
    (0xC := 98) ∷ (0x10 := 1) ∷ (0x14 := 0x584C4E58) ∷ (0x18 := 2) ∷ (0x1C := 3) ∷ (0x20 := 99) ∷ (0x24 := 4) ∷ (0x28 := 5)
    ∷ (0x2C := 6) ∷ (0x30 := 7) ∷ (0x34 := 97) ∷ (0x1138 := 96) ∷ (0x113C := 8) ∷ []

-- "word 0x10 [..]; bytes 0x14 are `XNLX`; the word at 0x113C [..]. The key at 0x18 [..]. PLM length 0x2C [..] its total 0x30; CDO length
-- 0x24 [..] its total 0x28; the source offset 0x1C"
pub boot_fields :
    boot_from (bytes_of (set (replicate 1104 0) boot_words))
    ≡ record {
      width_detection = 1;
      identified = true;
      key = 2;
      source_offset = 3;
      cdo_length = 4;
      cdo_total = 5;
      plm_length = 6;
      plm_total = 7;
      checksum = 8;
    }
unfolding computed
boot_fields = refl

-- each byte of `XNLX` another, and the string backwards
pub boot_strings : map (λ (w : ℕ). (boot_from (bytes_of (0 ∷ 0 ∷ 0 ∷ 0 ∷ 0 ∷ w ∷ []))).identified)
    (0x584C4E59 ∷ 0x584C4F58 ∷ 0x584D4E58 ∷ 0x594C4E58 ∷ 0x584E4C58 ∷ [])
    ≡ replicate 5 false
unfolding computed
boot_strings = refl

-- "the two's complement negative of the sum", of one word and of two
pub boot_sums : map (λ (w : ℕ). boot_checksum (bytes_of (w ∷ [])) 0 1) (0 ∷ 1 ∷ 0x80000000 ∷ 0xFFFFFFFF ∷ [])
    ≡ (0 ∷ 0xFFFFFFFF ∷ 0x80000000 ∷ 1 ∷ [])
unfolding computed boot_checksum
boot_sums = refl

pub boot_sum_of_two : boot_checksum (bytes_of (9 ∷ 0xFFFFFFFF ∷ 3 ∷ 9 ∷ [])) 4 2 ≡ 0xFFFFFFFE
unfolding computed boot_checksum
boot_sum_of_two = refl

-- In an image of 4,420 bytes, the sum of "the 1,099 words 0x10 to 0x1138" such that its negative is 7.
pub boot_cases_lem : (image : List ℕ) → length image ≡ 4420 → boot_checksum image 0x10 1099 ≡ 7
    → map (λ (c : BootCase). boot_header_bad image c.table c.boot) boot_cases ≡ map (λ (c : BootCase). c.says) boot_cases
unfolding opened boot_cases
boot_cases_lem image long sum = rw sum (rw long)

-- ---- the other rules

pub place_cases_lem : map answered place_cases ≡ map (λ (c : ImageCase). c.says) place_cases
unfolding answered place_cases
place_cases_lem = refl

pub table_sum_cases_lem : map tried table_sum_cases ≡ map (λ (c : Trial). c.says) table_sum_cases
unfolding tried breaks keeps table_sum_cases
table_sum_cases_lem = refl

pub kind_cases_lem : map tried kind_cases ≡ map (λ (c : Trial). c.says) kind_cases
unfolding tried breaks keeps kind_cases
kind_cases_lem = refl

pub field_cases_lem : map tried field_cases ≡ map (λ (c : Trial). c.says) field_cases
unfolding tried breaks keeps field_cases
field_cases_lem = refl

pub table_key_cases_lem : map tried table_key_cases ≡ map (λ (c : Trial). c.says) table_key_cases
unfolding tried breaks keeps table_key_cases
table_key_cases_lem = refl

pub image_header_cases_lem : map tried image_header_cases ≡ map (λ (c : Trial). c.says) image_header_cases
unfolding tried breaks keeps image_header_cases
image_header_cases_lem = refl

pub header_cases_lem : map answered header_cases ≡ map (λ (c : ImageCase). c.says) header_cases
unfolding answered header_cases
header_cases_lem = refl

pub chain_cases_lem : map tried chain_cases ≡ map (λ (c : Trial). c.says) chain_cases
unfolding tried breaks keeps chain_cases
chain_cases_lem = refl

pub header_sum_cases_lem : map tried header_sum_cases ≡ map (λ (c : Trial). c.says) header_sum_cases
unfolding tried breaks keeps header_sum_cases
header_sum_cases_lem = refl

pub attribute_cases_lem : map tried attribute_cases ≡ map (λ (c : Trial). c.says) attribute_cases
unfolding tried breaks keeps attribute_cases
attribute_cases_lem = refl

pub key_cases_lem : map tried key_cases ≡ map (λ (c : Trial). c.says) key_cases
unfolding tried breaks keeps key_cases
key_cases_lem = refl

pub length_cases_lem : map tried length_cases ≡ map (λ (c : Trial). c.says) length_cases
unfolding tried breaks keeps length_cases
length_cases_lem = refl

pub span_cases_lem : map tried span_cases ≡ map (λ (c : Trial). c.says) span_cases
unfolding tried breaks keeps span_cases
span_cases_lem = refl

pub no_load_cases_lem : map tried no_load_cases ≡ map (λ (c : Trial). c.says) no_load_cases
unfolding tried breaks keeps loaded_at no_load_cases
no_load_cases_lem = refl

pub load_cases_lem : map tried load_cases ≡ map (λ (c : Trial). c.says) load_cases
unfolding tried breaks keeps loaded_at load_cases
load_cases_lem = refl

pub address_cases_lem : map answered address_cases ≡ map (λ (c : ImageCase). c.says) address_cases
unfolding answered loaded_at address_cases
address_cases_lem = refl

pub load_clash_cases_lem : map tried load_clash_cases ≡ map (λ (c : Trial). c.says) load_clash_cases
unfolding tried breaks keeps load_clash_cases
load_clash_cases_lem = refl

pub block_cases_lem : map tried block_cases ≡ map (λ (c : Trial). c.says) block_cases
unfolding tried breaks keeps partition_block block_cases
block_cases_lem = refl

pub table_block_cases_lem : map tried table_block_cases ≡ map (λ (c : Trial). c.says) table_block_cases
unfolding tried breaks keeps table_block table_block_cases
table_block_cases_lem = refl

pub entry_cases_lem : map answered entry_cases ≡ map (λ (c : ImageCase). c.says) entry_cases
unfolding answered partition_block table_block entry_cases
entry_cases_lem = refl

pub clash_cases_lem : map tried clash_cases ≡ map (λ (c : Trial). c.says) clash_cases
unfolding tried breaks keeps table_block clash_cases
clash_cases_lem = refl
