-- Claims, demand 2: rows, bill and bodies of an accepted image are those the headers state. Assumes nothing.
use Rattle.std.specs.Prelude.{ℕ, ◌+◌, ◌*◌, ◌-◌, ◌≤◌, ◌<◌, true, ◌⊎◌, ◌≡◌, length, take, drop}
use mathlib.Core.List.{List, [], ◌∷◌, ◌++◌, flat_map, Mem}
use Rattle.pdi_spec.specs.{Limits.head_width, Limits.row_width, Limits.number_bytes, Words.word_at, File.File, File.table, File.partitions, File.header, File.hash_block, HashBlock.no_block, HashBlock.size_of_entries, HashBlock.entries_in, Ranges.span, Ranges.load_address_of, Ranges.load_range, Verdict.Rule, Verdict.accepted, Verdict.verdict, Verdict.Kept, RuleList.rule17, RuleList.rule14, RuleList.rule15, RuleList.plain_rules, RuleList.without_buffer, Answers.row_numbers, Answers.hash_entry, Answers.row_of, Answers.billed, Answers.head_and_rows, Answers.rows_after, Answers.asked, Answers.read_rows, Answers.bill_under, Answers.cut, Answers.body_under, Answers.read_answer, Answers.bill_answer, Answers.body_answer, Host.le_bytes, Host.host_answer, Host.host_rows}
use Rattle.pdi_spec.proofs.Laws.{Plain.plain}
use Rattle.pdi_spec.proofs.Laws

-- ---- rows

-- The head states kind, images, partitions and the billed bytes.
pub head_stated : (rs : List Rule) (f : File) (rows : List ℕ) → verdict rs f ≡ accepted
    → take head_width (rows_after rs f rows) ≡ (table f).kind ∷ (table f).images ∷ partitions f ∷ billed f ∷ []
head_stated = Laws.Rows.head_stated

-- Row p states the words of header p.
pub row_stated : (rs : List Rule) (f : File) (rows : List ℕ) → verdict rs f ≡ accepted → (p : ℕ) → 1 ≤ p → p ≤ partitions f
    → take row_width (drop (head_width + row_width * (p - 1)) (rows_after rs f rows))
    ≡ 4 * (header f p).data_offset
    ∷ 4 * (header f p).total
    ∷ 4 * (header f p).unencrypted
    ∷ load_address_of (header f p)
    ∷ (header f p).execution
    ∷ (header f p).key
    ∷ hash_entry f p
    ∷ (header f p).attributes
    ∷ []
unfolding row_numbers row_of span load_range
row_stated = Laws.Rows.row_after

-- Past the rows the buffer is as found.
pub rest_untouched : (rs : List Rule) (f : File) (rows : List ℕ) → verdict rs f ≡ accepted
    → drop (head_width + row_width * partitions f) (rows_after rs f rows) ≡ drop (head_width + row_width * partitions f) rows
rest_untouched = Laws.Rows.rest_after

-- Read leaves the buffer as long as it was.
pub buffer_as_long : (image : List ℕ) (place : ℕ) (rows : List ℕ) → length (read_rows image place rows) ≡ length rows
buffer_as_long = Laws.Answers.read_length plain

-- The host's rows are the same numbers, 8 bytes each, and past them its buffer is as found.
pub host_rows_lem : (image : List ℕ) (place : ℕ) (rows : List ℕ) → host_answer image place rows ≡ 0
    → host_rows image place rows
    ≡ flat_map (le_bytes number_bytes) (head_and_rows (asked image place))
    ++ drop (number_bytes * (head_width + row_width * partitions (asked image place))) rows
host_rows_lem = Laws.Answers.host_rows_lem plain

-- The hash entry of a row is 0 where there is no block, and else the byte offset of the block's one entry with the own index.
pub hash_entry_stated : (f : File) (p : ℕ) → 1 ≤ p → p ≤ partitions f → Kept rule17 f
    → ((no_block (hash_block f p) ≡ true) × (hash_entry f p ≡ 0))
    ⊎ ((k : ℕ)
    × (k < entries_in (hash_block f p).size)
    × (hash_entry f p ≡ 4 * (hash_block f p).offset + 52 * k)
    × (word_at f.bytes (hash_entry f p) ≡ p)
    × ((j : ℕ) → j < entries_in (hash_block f p).size → word_at f.bytes (4 * (hash_block f p).offset + 52 * j) ≡ p → j ≡ k))
hash_entry_stated = Laws.Kept.hash_entry_stated

-- A block's length stands for one number of entries.
pub entries_unique : (n : ℕ) → entries_in (size_of_entries n) ≡ n
entries_unique = Laws.HashBlock.entries_unique

-- ---- bill and bodies

-- The bill is the billed bytes, 4 × the sum of all T.
pub bill_stated : (rs : List Rule) (f : File) → verdict rs f ≡ accepted → bill_under rs f ≡ billed f
bill_stated = Laws.Answers.bill_accepted

-- Where read accepts, the fourth number of its head equals bill's answer.
pub fourth_is_bill : (image : List ℕ) (place : ℕ) (rows : List ℕ) → read_answer image place rows ≡ 0
    → take 1 (drop 3 (read_rows image place rows)) ≡ bill_answer image place ∷ []
fourth_is_bill = Laws.Answers.fourth_is_bill plain

-- The body of partition p is the first 4E bytes of its span, and as many ..
pub body_stated : (rs : List Rule) (f : File) → verdict rs f ≡ accepted → Mem rule14 rs → Mem rule15 rs
    → (p : ℕ) → 1 ≤ p → p ≤ partitions f
    → (body_under rs f p ≡ take (4 * (header f p).encrypted) (cut (span f p) f.bytes))
    × (length (body_under rs f p) ≡ 4 * (header f p).encrypted)
body_stated = Laws.Answers.body_under_lem

-- .. and so is body's answer.
pub body_answer_stated : (image : List ℕ) (place p : ℕ) → verdict (without_buffer plain_rules) (asked image place) ≡ accepted
    → 1 ≤ p → p ≤ partitions (asked image place)
    → (body_answer image place p ≡ take (4 * (header (asked image place) p).encrypted) (cut (span (asked image place) p) image))
    × (length (body_answer image place p) ≡ 4 * (header (asked image place) p).encrypted)
body_answer_stated = Laws.Answers.body_stated plain

-- The body of a p that isn't 1 to N is empty.
pub no_such_body : (rs : List Rule) (f : File) (p : ℕ) → (p < 1) ⊎ (partitions f < p) → body_under rs f p ≡ []
no_such_body = Laws.Answers.body_none
