-- Document 01, "Rules by number": each rule's condition, "Broken when", under its table row or its paragraph. A condition that looks at
-- one header alone is stated of that header. Rule 20 is in ImageRules.antt; the lists that gather the rules are in RuleList.antt. Assumes
-- nothing.
use Rattle.std.specs.Prelude.{ℕ, ◌*◌, ◌-◌, ◌%◌, Bool, cond, not, ◌&&◌, ◌||◌, List, [], ◌∷◌, ◌++◌, length, ltb, eqb}
use Rattle.pdi_spec.specs.Limits.{longest_image, most_images, most_partitions, most_entries}
use Rattle.pdi_spec.specs.Lists.{numbers, any_true, any_of, any_pair, is_in}
use Rattle.pdi_spec.specs.Words.{checksum, boot_checksum}
use Rattle.pdi_spec.specs.Keys.{zero_or_common, zero_common_or_user}
use Rattle.pdi_spec.specs.Headers.{header_words, image_header_words, Block, Table, table_words_of, image_header_words_of, partition_header_words_of, Header, Boot, boot_size, boot_from}
use Rattle.pdi_spec.specs.Attributes.{cluster_of, dpa_of, type_of, reserved_of, tcm_flag_of, owner_of, checksum_type_of, cpu_of, lockstep_of, has_load_address}
use Rattle.pdi_spec.specs.File.{File, table, is_full, partitions, header, hash_block}
use Rattle.pdi_spec.specs.HashBlock.{digest_size, no_block, size_of_entries, entries_in, own_entries}
use Rattle.pdi_spec.specs.Ranges.{Range, past, overlap, same_range, table_range, table_with_optional, image_headers, header_range, span_of, block_range, spans, bodies, header_ranges, hash_blocks, meet, loads, load_range, load_range_of, address_space}

-- not `low` to `high`
unfoldable pub not_from : ℕ → ℕ → ℕ → Bool
not_from low high n = ltb n low || ltb high n

-- 1: "image longer than 1,073,741,824 bytes"
unfoldable pub image_too_long : File → Bool
image_too_long f = ltb longest_image (length f.bytes)

-- 2: "row buffer under 260 numbers"; the host's is measured in bytes: `least` is the least that serves
unfoldable pub buffer_too_short : ℕ → ℕ → File → Bool
buffer_too_short least have f = ltb have least

-- 3: "table place not a multiple of 4, or place + 128 past the image"
unfoldable pub table_outside : File → Bool
table_outside f = not (eqb (f.place % 4) 0) || past (length f.bytes) (table_range f.place)

-- 4: "table checksum isn't the sum of its first 31 words"
unfoldable pub table_checksum_wrong : File → Bool
table_checksum_wrong f = not (eqb (table f).checksum (checksum f.bytes f.place 31))

-- 5: "version not 0x00010000, or bytes at 0x28 neither `FPDI` nor `PPDI`"
unfoldable pub kind_unknown : Table → Bool
kind_unknown t = not (eqb t.version 0x00010000) || eqb t.kind 0

-- 6: "images or partitions not 1 to 32; in 0x2C, bits 0-7 not 32, 8-15 [..], or 16-23 not 32; optional words not a multiple of 4; word
-- 0x78 not 0"; document 02, CR 1, of bits 8-15: "Image header size must now be 16, under rule 6."
unfoldable pub table_fields_bad : Table → Bool
table_fields_bad t =
    any_true
    (not_from 1 most_images t.images
    ∷ not_from 1 most_partitions t.partitions
    ∷ not (eqb (table_words_of t.header_sizes) header_words)
    ∷ not (eqb (image_header_words_of t.header_sizes) image_header_words)
    ∷ not (eqb (partition_header_words_of t.header_sizes) header_words)
    ∷ not (eqb (t.optional_words % 4) 0)
    ∷ not (eqb t.reserved 0)
    ∷ [])

-- 7: "table key not 0 or a common key"
unfoldable pub table_key_unknown : Table → Bool
table_key_unknown t = not (zero_or_common t.key)

-- 8, the boot header's paragraph: "the table place must be at least 4,416; word 0x10 is 0xAA995566; bytes 0x14 are `XNLX`;
-- the word at 0x113C is the two's complement negative of the sum of the 1,099 words 0x10 to 0x1138. The key at 0x18 is 0 or common,
-- and the table's key is 0 or equal to it. PLM length 0x2C is at least 1 and at most its total 0x30; CDO length 0x24 at most its
-- total 0x28; the source offset 0x1C is at least 4,416, and offset + PLM total isn't past the image."
unfoldable pub boot_header_bad : List ℕ → Table → Boot → Bool
boot_header_bad bytes t b =
    any_true
    (ltb t.place boot_size
    ∷ not (eqb b.width_detection 0xAA995566)
    ∷ not b.identified
    ∷ not (eqb b.checksum (boot_checksum bytes 0x10 1099))
    ∷ not (zero_or_common b.key)
    ∷ not (eqb t.key 0 || eqb t.key b.key)
    ∷ ltb b.plm_length 1
    ∷ ltb b.plm_total b.plm_length
    ∷ ltb b.cdo_total b.cdo_length
    ∷ ltb b.source_offset boot_size
    ∷ past (length bytes) (record { start = b.source_offset; size = b.plm_total })
    ∷ [])

-- 8: "full image, boot header bad"
unfoldable pub boot_header_wrong : File → Bool
boot_header_wrong f = is_full f && boot_header_bad f.bytes (table f) (boot_from f.bytes)

-- 9: "optional data or image headers past the image"
unfoldable pub image_headers_outside : List ℕ → Table → Bool
image_headers_outside bytes t = past (length bytes) (table_with_optional t) || past (length bytes) (image_headers t)

-- 10: "header p past the image; next 0 at p < N; next not 0 at p = N"
unfoldable pub chain_broken : File → ℕ → Bool
chain_broken f p =
    any_true
    (past (length f.bytes) (header_range (header f p))
    ∷ (ltb p (partitions f) && eqb (header f p).next 0)
    ∷ (eqb p (partitions f) && not (eqb (header f p).next 0))
    ∷ [])

-- 11: "header checksum isn't the sum of its first 31 words"
unfoldable pub header_checksum_bad : List ℕ → Header → Bool
header_checksum_bad bytes h = not (eqb h.checksum (checksum bytes h.at 31))

-- 12, the attributes' paragraph: "bits 31:29 at most 4; 28:27 are 0 or 3; 26:24 not 0; 22:21 zero; 20:19 are 0 or 3; 17:16 are
-- 0 or 1; 13:12 are 0 or 3; 11:8 are 0 to 6, 8 or 9; 5:4 are 0 or 3. Bits 15:14 and 7:6 [..] aren't examined."
unfoldable pub attribute_word_bad : ℕ → Bool
attribute_word_bad word =
    any_true
    (ltb 4 (cluster_of word)
    ∷ not (is_in (dpa_of word) (0 ∷ 3 ∷ []))
    ∷ eqb (type_of word) 0
    ∷ not (eqb (reserved_of word) 0)
    ∷ not (is_in (tcm_flag_of word) (0 ∷ 3 ∷ []))
    ∷ not (is_in (owner_of word) (0 ∷ 1 ∷ []))
    ∷ not (is_in (checksum_type_of word) (0 ∷ 3 ∷ []))
    ∷ not (is_in (cpu_of word) (0 ∷ 1 ∷ 2 ∷ 3 ∷ 4 ∷ 5 ∷ 6 ∷ 8 ∷ 9 ∷ []))
    ∷ not (is_in (lockstep_of word) (0 ∷ 3 ∷ []))
    ∷ [])

-- 12: "word 0x78 not 0, or attributes bad"
unfoldable pub attributes_bad : Header → Bool
attributes_bad h = not (eqb h.reserved 0) || attribute_word_bad h.attributes

-- 13: "key not 0, common or user"
unfoldable pub key_unknown : Header → Bool
key_unknown h = not (zero_common_or_user h.key)

-- 14: "not 1 ≤ U ≤ E ≤ T; an actual size over its total"
unfoldable pub lengths_bad : Header → Bool
lengths_bad h =
    any_true
    (ltb h.unencrypted 1
    ∷ ltb h.encrypted h.unencrypted
    ∷ ltb h.total h.encrypted
    ∷ ltb h.key_total h.key_actual
    ∷ ltb h.signature_total h.signature_actual
    ∷ [])

-- 15: "span past the image; checksum type 3 and its 48 bytes past the image"
unfoldable pub span_outside : List ℕ → Header → Bool
span_outside bytes h =
    past (length bytes) (span_of h)
    || (eqb (checksum_type_of h.attributes) 3 && past (length bytes) (record { start = 4 * h.checksum_offset; size = digest_size }))

-- 16: "types 2, 3, 6, 7 hold 0xFFFFFFFF in both halves [..]. Types 1, 4, 5 have the range of 4U bytes at the address; its end
-- must be at most 2^64." Rule 12 has refused type 0.
unfoldable pub load_address_bad : Header → Bool
load_address_bad h =
    cond (has_load_address h.attributes)
    (past address_space (load_range_of h).addresses)
    (not (eqb h.load_low 0xFFFFFFFF && eqb h.load_high 0xFFFFFFFF))

-- 17: "Only one 0: bad. Else the length is 52n rounded up to a multiple of 16, n from 1 to 33, the block ends within the
-- image, and exactly one entry has the own index. Padding isn't examined." The own index is i.
unfoldable pub hash_block_bad : List ℕ → ℕ → Block → Bool
hash_block_bad bytes i b =
    any_true
    (eqb b.size 0
    ∷ eqb b.offset 0
    ∷ not_from 1 most_entries (entries_in b.size)
    ∷ not (eqb b.size (size_of_entries (entries_in b.size)))
    ∷ past (length bytes) (block_range b)
    ∷ not (eqb (own_entries bytes b i) 1)
    ∷ [])

-- 17: "length and offset both 0: no block"
unfoldable pub hash_block_wrong : File → ℕ → Bool
hash_block_wrong f i = not (no_block (hash_block f i)) && hash_block_bad f.bytes i (hash_block f i)

-- 18: "these are disjoint: the boot header (full only), table with optional data, image headers, each partition header, each
-- span. Each hash block is disjoint from all of them but spans, and from each body. Two hash blocks are equal or disjoint."
unfoldable pub stored_ranges_clash : File → Bool
stored_ranges_clash f =
    any_true
    (any_pair overlap (header_ranges f ++ spans f)
    ∷ any_of (λ (h : Range). any_of (overlap h) (header_ranges f ++ bodies f)) (hash_blocks f)
    ∷ any_pair (λ (g h : Range). overlap g h && not (same_range g h)) (hash_blocks f)
    ∷ [])

-- 19: "load ranges clash; p is the smallest whose load range meets an earlier partition's"
unfoldable pub load_ranges_clash : File → ℕ → Bool
load_ranges_clash f p =
    loads f p && any_of (λ (e : ℕ). loads f e && meet (load_range f p) (load_range f e)) (numbers 1 (p - 1))
