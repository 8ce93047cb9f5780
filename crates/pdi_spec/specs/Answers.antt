-- Document 01, "What the reader does" and "What an acceptance writes": the complete answers of read, bill and body; and document 02, CR 1:
-- that of owner.
-- Assumes nothing.
use Rattle.std.specs.Prelude.{ℕ, ◌+◌, ◌*◌, ◌/◌, ◌%◌, ◌≤◌, cond, ◌≡◌, length, take, drop}
use mathlib.Core.List.{List, [], ◌∷◌, ◌++◌, map, flat_map}
use Rattle.pdi_spec.specs.Limits.{most_partitions, answer_unit, last_rule}
use Rattle.pdi_spec.specs.Lists.{sum_of}
use Rattle.pdi_spec.specs.File.{File, table, partitions, partition_numbers, header, hash_block}
use Rattle.pdi_spec.specs.HashBlock.{hash_entry_in}
use Rattle.pdi_spec.specs.Images.{owner_image}
use Rattle.pdi_spec.specs.Ranges.{Range, span, body, load_range}
use Rattle.pdi_spec.specs.Verdict.{Rule, Outcome, accepted, refused, verdict}
use Rattle.pdi_spec.specs.Rules.{not_from}
use Rattle.pdi_spec.specs.RuleList.{plain_rules, without_buffer, with_rows}

-- "answers 64 × number + p, with number 0 for accepted"
unfoldable pub answer : Outcome → ℕ
answer accepted = 0
answer (refused number p) = answer_unit * number + p

-- one thing where accepted, another where refused
unfoldable pub if_accepted : {A : Type 0} → Outcome → A → A → A
if_accepted accepted yea nay = yea
if_accepted (refused number p) yea nay = nay

-- one thing of a partition p of an accepted file, another where the file is refused or p isn't 1 to N
unfoldable pub if_partition : {A : Type 0} → List Rule → File → ℕ → A → A → A
if_partition rs f p yea nay = if_accepted (verdict rs f) (cond (not_from 1 (partitions f) p) nay yea) nay

-- "for each partition, in chain order, eight: span start in bytes, span length in bytes, loaded bytes, load address,
-- execution address, key word, byte offset of its hash entry (0 if none), attribute word"
pub record Row : Type 0 where
  pub span_start : ℕ
  pub span_length : ℕ
  pub loaded_bytes : ℕ
  pub load : ℕ
  pub execution : ℕ
  pub key_word : ℕ
  pub hash_entry_offset : ℕ
  pub attribute_word : ℕ

unfoldable pub row_numbers : Row → List ℕ
row_numbers r =
    r.span_start ∷ r.span_length ∷ r.loaded_bytes ∷ r.load ∷ r.execution ∷ r.key_word ∷ r.hash_entry_offset ∷ r.attribute_word ∷ []

-- the hash entry of partition p
unfoldable pub hash_entry : File → ℕ → ℕ
hash_entry f p = hash_entry_in f.bytes (hash_block f p) p

unfoldable pub row_of : File → ℕ → Row
row_of f p =
    record {
      span_start = (span f p).start;
      span_length = (span f p).size;
      loaded_bytes = (load_range f p).addresses.size;
      load = (load_range f p).addresses.start;
      execution = (header f p).execution;
      key_word = (header f p).key;
      hash_entry_offset = hash_entry f p;
      attribute_word = (header f p).attributes;
    }

-- "Billed: 4 × the sum of all T."
unfoldable pub billed : File → ℕ
billed f = 4 * sum_of (map (λ (p : ℕ). (header f p).total) (partition_numbers f))

-- "Head, four numbers: kind (1 full, 2 partial), images, partitions N, billed bytes."
unfoldable pub head : File → List ℕ
head f = (table f).kind ∷ (table f).images ∷ partitions f ∷ billed f ∷ []

-- the head and N rows
unfoldable pub head_and_rows : File → List ℕ
head_and_rows f = head f ++ flat_map (λ (p : ℕ). row_numbers (row_of f p)) (partition_numbers f)

-- ---- by any list of rules

-- what a question with this list of rules writes: nothing where it refuses
unfoldable pub written : List Rule → File → List ℕ
written rs f = if_accepted (verdict rs f) (head_and_rows f) []

-- "Only the first 4 + 8N numbers change." "A refused read leaves every number of the row buffer as found."
unfoldable pub rows_after : List Rule → File → List ℕ → List ℕ
rows_after rs f rows = written rs f ++ drop (length (written rs f)) rows

-- "Bill gives the billed bytes, 0 if refused."
unfoldable pub bill_under : List Rule → File → ℕ
bill_under rs f = if_accepted (verdict rs f) (billed f) 0

-- the bytes of a part of the image
unfoldable pub cut : Range → List ℕ → List ℕ
cut r bytes = take r.size (drop r.start bytes)

-- a part with no bytes; that it lies at the image's start is our reading, as document 01 leaves its place open
abbrev pub empty_part : Range
empty_part = record { start = 0; size = 0 }

-- "hands back the stored bytes of that partition as a part of the lent image. It is empty if the image is refused or p isn't
-- 1 to N": which part of the image that is, and its bytes
unfoldable pub part_under : List Rule → File → ℕ → Range
part_under rs f p = if_partition rs f p (body f p) empty_part

unfoldable pub body_under : List Rule → File → ℕ → List ℕ
body_under rs f p = cut (part_under rs f p) f.bytes

-- document 02, CR 1: "the owner image of partition p, counted from 1, or 0 if the image is refused or p isn't 1 to N"
unfoldable pub owner_under : List Rule → File → ℕ → ℕ
owner_under rs f p = if_partition rs f p (owner_image f p) 0

-- ---- questions, each given by its own rules of the image, for any image, place, row buffer and p

abbrev pub asked : List ℕ → ℕ → File
asked image place = record { bytes = image; place = place }

unfoldable pub read_by : List Rule → List ℕ → ℕ → List ℕ → ℕ
read_by own image place rows = answer (verdict (with_rows (length rows) own) (asked image place))

unfoldable pub rows_by : List Rule → List ℕ → ℕ → List ℕ → List ℕ
rows_by own image place rows = rows_after (with_rows (length rows) own) (asked image place) rows

unfoldable pub bill_by : List Rule → List ℕ → ℕ → ℕ
bill_by own image place = bill_under (without_buffer own) (asked image place)

unfoldable pub part_by : List Rule → List ℕ → ℕ → ℕ → Range
part_by own image place p = part_under (without_buffer own) (asked image place) p

unfoldable pub body_by : List Rule → List ℕ → ℕ → ℕ → List ℕ
body_by own image place p = body_under (without_buffer own) (asked image place) p

unfoldable pub owner_by : List Rule → List ℕ → ℕ → ℕ → ℕ
owner_by own image place p = owner_under (without_buffer own) (asked image place) p

-- ---- plain reading: the three questions of document 01, and that of document 02, CR 1

abbrev pub read_answer : List ℕ → ℕ → List ℕ → ℕ
read_answer = read_by plain_rules

abbrev pub read_rows : List ℕ → ℕ → List ℕ → List ℕ
read_rows = rows_by plain_rules

abbrev pub bill_answer : List ℕ → ℕ → ℕ
bill_answer = bill_by plain_rules

-- the part of the image that body hands back, and its bytes
abbrev pub body_part : List ℕ → ℕ → ℕ → Range
body_part = part_by plain_rules

abbrev pub body_answer : List ℕ → ℕ → ℕ → List ℕ
body_answer = body_by plain_rules

abbrev pub owner_answer : List ℕ → ℕ → ℕ → ℕ
owner_answer = owner_by plain_rules

-- ---- what is claimed of a refused call, read's or the host's: `given` is its answer, `found` and `left` are its row buffer before and
-- after, and `least` is the least that serves

pub record RefusedCall (image : List ℕ) (place given : ℕ) (found left : List ℕ) (least : ℕ) : Type 0 where
  pub from_1 : 1 ≤ given / answer_unit
  pub to_last : given / answer_unit ≤ last_rule
  pub small_p : given % answer_unit ≤ most_partitions
  pub as_found : left ≡ found
  pub bills_nothing : least ≤ length found → bill_answer image place ≡ 0
  pub no_part : least ≤ length found → (p : ℕ) → body_part image place p ≡ empty_part
  pub no_body : least ≤ length found → (p : ℕ) → body_answer image place p ≡ []
  pub no_owner : least ≤ length found → (p : ℕ) → owner_answer image place p ≡ 0
