-- The code's structs as the records of pdi_spec, and a hash block's entry as it is read. Assumes nothing.
use Rattle.std.specs.Prelude.{ℕ, List}
use Rattle.pdi_spec.specs.Headers.{Table, Header, Boot}
use Rattle.pdi_spec.specs.Headers as spec
use Rattle.pdi_spec.specs.Words.{word_at}
use Rattle.headers.specs.declared.block.Block.{Block}
use Rattle.headers.specs.declared.table.TableHeader.{TableHeader}
use Rattle.headers.specs.declared.partition.PartitionHeader.{PartitionHeader}
use Rattle.headers.specs.declared.boot.BootHeader.{BootHeader}
use Rattle.headers.specs.declared.entry.HashEntry.{HashEntry}
use Rattle.headers.specs.declared.image.ImageHeader.{ImageHeader}

abbrev pub block_of : Block → spec.Block
block_of b = record { size = b.size; offset = b.offset }

abbrev pub table_of : TableHeader → Table
table_of t =
    record {
      place = t.place;
      version = t.version;
      images = t.images;
      image_header_offset = t.image_header_offset;
      partitions = t.partitions;
      first_header_offset = t.first_header_offset;
      kind = t.kind;
      header_sizes = t.header_sizes.word;
      key = t.key;
      optional_words = t.optional_words;
      block = block_of t.block;
      reserved = t.reserved;
      checksum = t.checksum;
    }

abbrev pub header_of : PartitionHeader → Header
header_of h =
    record {
      at = h.at;
      encrypted = h.encrypted;
      unencrypted = h.unencrypted;
      total = h.total;
      next = h.next;
      execution = h.execution;
      load_low = h.load_low;
      load_high = h.load_high;
      data_offset = h.data_offset;
      attributes = h.attributes.word;
      checksum_offset = h.checksum_offset;
      key = h.key;
      block = block_of h.block;
      key_total = h.key_total;
      key_actual = h.key_actual;
      signature_total = h.signature_total;
      signature_actual = h.signature_actual;
      reserved = h.reserved;
      checksum = h.checksum;
    }

abbrev pub image_header_of : ImageHeader → spec.ImageHeader
image_header_of h =
    record { at = h.at; first_header_offset = h.first_header_offset; partitions = h.partitions; checksum = h.checksum }

abbrev pub boot_of : BootHeader → Boot
boot_of b =
    record {
      width_detection = b.width_detection;
      identified = b.identified;
      key = b.key;
      source_offset = b.source_offset;
      cdo_length = b.cdo_length;
      cdo_total = b.cdo_total;
      plm_length = b.plm_length;
      plm_total = b.plm_total;
      checksum = b.checksum;
    }

-- the entry at a byte offset: its index comes first
unfoldable pub entry_from : List ℕ → ℕ → HashEntry
entry_from bytes at = record { at = at; index = word_at bytes at }
