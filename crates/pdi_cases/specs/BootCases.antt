-- Document 01, rule 8: each clause of its paragraph, on the fields of a boot header. The sum of a boot header's 1,099 words is too long to
-- compute here: the images themselves are run (crates/bench_cases). What is said of a case is taken from document 01. Assumes nothing.
use Rattle.std.specs.Prelude.{ℕ, Bool, true, false, List, [], ◌∷◌}
use Rattle.pdi_spec.specs.Headers.{Table, Boot}

pub record BootCase : Type 0 where
  pub table : Table
  pub boot : Boot
  pub says : Bool

-- a table at a place with a key; its other fields are none of rule 8's
abbrev table_at : ℕ → ℕ → Table
table_at place key =
    record {
      place = place;
      version = 0x00010000;
      images = 1;
      image_header_offset = 0;
      partitions = 1;
      first_header_offset = 0;
      kind = 1;
      header_sizes = 0x00201020;
      key = key;
      optional_words = 0;
      block = record { size = 0; offset = 0 };
      reserved = 0;
      checksum = 0;
    }

-- a boot header: key, source offset, lengths and totals of CDO and PLM; width word, string and checksum right
abbrev boot_of : ℕ → ℕ → ℕ → ℕ → ℕ → ℕ → Boot
boot_of key source cdo cdo_total plm plm_total =
    record {
      width_detection = 0xAA995566;
      identified = true;
      key = key;
      source_offset = source;
      cdo_length = cdo;
      cdo_total = cdo_total;
      plm_length = plm;
      plm_total = plm_total;
      checksum = 7;
    }

-- at the place 4,416, with no key and a PLM of the last 4 bytes of an image of 4,420: width word, string, checksum
abbrev marked : ℕ → Bool → ℕ → Bool → BootCase
marked width identified checksum says =
    record {
      table = table_at 4416 0;
      boot =
          record {
            width_detection = width;
            identified = identified;
            key = 0;
            source_offset = 4416;
            cdo_length = 0;
            cdo_total = 0;
            plm_length = 1;
            plm_total = 4;
            checksum = checksum;
          };
      says = says;
    }

-- the place, the table's key and the boot header's
abbrev keyed : ℕ → ℕ → ℕ → Bool → BootCase
keyed place tableKey key says = record { table = table_at place tableKey; boot = boot_of key 4416 0 0 1 4; says = says }

-- source offset, lengths and totals of CDO and PLM
abbrev sized : ℕ → ℕ → ℕ → ℕ → ℕ → Bool → BootCase
sized source cdo cdo_total plm plm_total says =
    record { table = table_at 4416 0; boot = boot_of 0 source cdo cdo_total plm plm_total; says = says }

-- whether it is bad, in an image of 4,420 bytes whose boot header has the checksum 7
unfoldable pub boot_cases : List BootCase
boot_cases =
    -- "word 0x10 is 0xAA995566; bytes 0x14 are `XNLX`; the word at 0x113C is the two's complement negative of the sum"
    marked 0xAA995566 true 7 false
    ∷ marked 0xAA995567 true 7 true
    ∷ marked 0x665599AA true 7 true
    ∷ marked 0xAA995566 false 7 true
    ∷ marked 0xAA995566 true 8 true
    -- "the table place must be at least 4,416"
    ∷ keyed 4412 0 0 true
    ∷ keyed 4420 0 0 false
    -- "The key at 0x18 is 0 or common, and the table's key is 0 or equal to it."
    ∷ keyed 4416 0 0xA5C3C5A3 false
    ∷ keyed 4416 0 0xA5C3C5A2 true
    ∷ keyed 4416 0 0x5C3CA5A3 true
    ∷ keyed 4416 0xA5C3C5A3 0xA5C3C5A3 false
    ∷ keyed 4416 0xA5C3C5A3 0xA5C3C5A5 true
    ∷ keyed 4416 0xA5C3C5A3 0 true
    -- "PLM length 0x2C is at least 1 and at most its total 0x30"
    ∷ sized 4416 0 0 0 4 true
    ∷ sized 4416 0 0 4 4 false
    ∷ sized 4416 0 0 4 3 true
    -- "CDO length 0x24 at most its total 0x28"
    ∷ sized 4416 1 0 1 4 true
    ∷ sized 4416 1 1 1 4 false
    ∷ sized 4416 0 0xFFFFFFFF 1 4 false
    -- "the source offset 0x1C is at least 4,416, and offset + PLM total isn't past the image"
    ∷ sized 4415 0 0 1 4 true
    ∷ sized 4417 0 0 1 3 false
    ∷ sized 4417 0 0 1 4 true
    ∷ sized 4416 0 0 1 5 true
    ∷ sized 0xFFFFFFFF 0 0 1 1 true
    ∷ []
