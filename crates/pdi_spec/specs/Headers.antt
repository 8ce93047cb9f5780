-- Document 01, "The words": the table, a partition header and the boot header, field by field, as they are read at a byte offset; and
-- document 02, CR 1: an image header.
-- "header, data, checksum and hash block offsets count words from image byte 0; hash block, key and signature lengths and all of the
-- boot header's lengths and offsets count bytes." Assumes nothing.
use Rattle.std.specs.Prelude.{ℕ, ◌+◌, ◌*◌, ◌^◌, Bool, cond, List, [], ◌∷◌}
use Rattle.pdi_spec.specs.Words.{word_at, bits, spells}

-- the size of the table, and of a partition header: in words, and in bytes
abbrev pub header_words : ℕ
header_words = 32

abbrev pub header_size : ℕ
header_size = 4 * header_words

-- "hash block length 0x60 and offset 0x64", in the table and in a partition header: the length in bytes, the offset in words
pub record Block : Type 0 where
  pub size : ℕ
  pub offset : ℕ

unfoldable pub block_from : List ℕ → ℕ → Block
block_from bytes at = record { size = word_at bytes (at + 0x60); offset = word_at bytes (at + 0x64) }

-- ---- the table (003)

-- the kind strings, as their bytes
unfoldable pub FPDI : List ℕ
FPDI = 0x46 ∷ 0x50 ∷ 0x44 ∷ 0x49 ∷ []

unfoldable pub PPDI : List ℕ
PPDI = 0x50 ∷ 0x50 ∷ 0x44 ∷ 0x49 ∷ []

-- "kind (1 full, 2 partial)", by the four bytes of the kind string; 0 where they are neither
unfoldable pub kind_from : List ℕ → ℕ → ℕ
kind_from bytes at = cond (spells bytes at FPDI) 1 (cond (spells bytes at PPDI) 2 0)

-- Header sizes in words (003): bits 7:0 the table's, 15:8 an image header's, 23:16 a partition header's.
abbrev pub table_words_of : ℕ → ℕ
table_words_of sizes = bits sizes 7 0

abbrev pub image_header_words_of : ℕ → ℕ
image_header_words_of sizes = bits sizes 15 8

abbrev pub partition_header_words_of : ℕ → ℕ
partition_header_words_of sizes = bits sizes 23 16

pub record Table : Type 0 where
  pub place : ℕ
  pub version : ℕ
  pub images : ℕ
  pub image_header_offset : ℕ
  pub partitions : ℕ
  pub first_header_offset : ℕ
  pub kind : ℕ
  pub header_sizes : ℕ
  pub key : ℕ
  pub optional_words : ℕ
  pub block : Block
  pub reserved : ℕ
  pub checksum : ℕ

-- "version 0x0, images 0x4, image header offset 0x8, partitions 0xC, first partition header offset 0x10, kind string 0x28, header
-- sizes 0x2C, key 0x40, optional words 0x58, hash block length 0x60 and offset 0x64, reserved 0x78, checksum 0x7C"
unfoldable pub table_from : List ℕ → ℕ → Table
table_from bytes place =
    record {
      place = place;
      version = word_at bytes (place + 0x0);
      images = word_at bytes (place + 0x4);
      image_header_offset = word_at bytes (place + 0x8);
      partitions = word_at bytes (place + 0xC);
      first_header_offset = word_at bytes (place + 0x10);
      kind = kind_from bytes (place + 0x28);
      header_sizes = word_at bytes (place + 0x2C);
      key = word_at bytes (place + 0x40);
      optional_words = word_at bytes (place + 0x58);
      block = block_from bytes place;
      reserved = word_at bytes (place + 0x78);
      checksum = word_at bytes (place + 0x7C);
    }

-- ---- a partition header (000)

pub record Header : Type 0 where
  pub at : ℕ
  pub encrypted : ℕ
  pub unencrypted : ℕ
  pub total : ℕ
  pub next : ℕ
  pub execution : ℕ
  pub load_low : ℕ
  pub load_high : ℕ
  pub data_offset : ℕ
  pub attributes : ℕ
  pub checksum_offset : ℕ
  pub key : ℕ
  pub block : Block
  pub key_total : ℕ
  pub key_actual : ℕ
  pub signature_total : ℕ
  pub signature_actual : ℕ
  pub reserved : ℕ
  pub checksum : ℕ

-- "E = word 0x0 (encrypted length), U = 0x4 (unencrypted), T = 0x8 (total), next 0xC, execution address 0x10 low and 0x14 high, load
-- address 0x18 and 0x1C, data offset D 0x20, attributes 0x24, checksum offset 0x2C, key 0x44, hash block length 0x60 and offset 0x64,
-- key sizes 0x68 total and 0x6C actual, signature sizes 0x70 total and 0x74 actual, reserved 0x78, checksum 0x7C"
unfoldable pub header_from : List ℕ → ℕ → Header
header_from bytes at =
    record {
      at = at;
      encrypted = word_at bytes (at + 0x0);
      unencrypted = word_at bytes (at + 0x4);
      total = word_at bytes (at + 0x8);
      next = word_at bytes (at + 0xC);
      execution = word_at bytes (at + 0x10) + 2 ^ 32 * word_at bytes (at + 0x14);
      load_low = word_at bytes (at + 0x18);
      load_high = word_at bytes (at + 0x1C);
      data_offset = word_at bytes (at + 0x20);
      attributes = word_at bytes (at + 0x24);
      checksum_offset = word_at bytes (at + 0x2C);
      key = word_at bytes (at + 0x44);
      block = block_from bytes at;
      key_total = word_at bytes (at + 0x68);
      key_actual = word_at bytes (at + 0x6C);
      signature_total = word_at bytes (at + 0x70);
      signature_actual = word_at bytes (at + 0x74);
      reserved = word_at bytes (at + 0x78);
      checksum = word_at bytes (at + 0x7C);
    }

-- ---- an image header (document 02, CR 1)

-- "an image header has 16 words": its size in words, and in bytes
abbrev pub image_header_words : ℕ
image_header_words = 16

abbrev pub image_header_size : ℕ
image_header_size = 4 * image_header_words

pub record ImageHeader : Type 0 where
  pub at : ℕ
  pub first_header_offset : ℕ
  pub partitions : ℕ
  pub checksum : ℕ

-- "0 the word offset of its first partition header, 1 its number of partitions, 15 a checksum"; words 2 to 14 aren't examined
unfoldable pub image_header_from : List ℕ → ℕ → ImageHeader
image_header_from bytes at =
    record {
      at = at;
      first_header_offset = word_at bytes (at + 4 * 0);
      partitions = word_at bytes (at + 4 * 1);
      checksum = word_at bytes (at + 4 * 15);
    }

-- ---- the boot header (001)

-- 0x0 up to and with the checksum word at 0x113C: 4,416 bytes
abbrev pub boot_size : ℕ
boot_size = 4416

-- the identification string, as its bytes
unfoldable pub XNLX : List ℕ
XNLX = 0x58 ∷ 0x4E ∷ 0x4C ∷ 0x58 ∷ []

pub record Boot : Type 0 where
  pub width_detection : ℕ
  pub identified : Bool
  pub key : ℕ
  pub source_offset : ℕ
  pub cdo_length : ℕ
  pub cdo_total : ℕ
  pub plm_length : ℕ
  pub plm_total : ℕ
  pub checksum : ℕ

-- its fields that rule 8 names, from image byte 0 on; "The first 16 bytes aren't examined."
unfoldable pub boot_from : List ℕ → Boot
boot_from bytes =
    record {
      width_detection = word_at bytes 0x10;
      identified = spells bytes 0x14 XNLX;
      key = word_at bytes 0x18;
      source_offset = word_at bytes 0x1C;
      cdo_length = word_at bytes 0x24;
      cdo_total = word_at bytes 0x28;
      plm_length = word_at bytes 0x2C;
      plm_total = word_at bytes 0x30;
      checksum = word_at bytes 0x113C;
    }
