-- The three demands, gathered in one theorem, `demands`: each field is a sentence of a demand, restated whole from the definitions and
-- proved by its claim alone, so that a claim that says less no longer proves it. That every question takes any input, ends and relies on
-- nothing from its caller is in the promises of src/lib.rt, which ask for nothing. Assumes nothing, but that an image's bytes are below 256
-- where its numbers are read back from eight bytes.
use Rattle.std.specs.Prelude.{ℕ, ◌+◌, ◌*◌, ◌-◌, ◌/◌, ◌%◌, ◌^◌, ◌≤◌, ◌<◌, true, false, cond, ◌↔◌, ◌⊎◌, ◌≡◌, length, take, drop, get_or}
use mathlib.Core.List.{List, [], ◌∷◌, ◌++◌, map, Mem, Nodup, Pairwise, Perm}
use Rattle.pdi_spec.specs.Answers.{hash_entry, asked, empty_part, read_answer, read_rows, bill_answer, body_part, body_answer, owner_answer}
use Rattle.pdi_spec.specs.Bench.{Case, seen, starred}
use Rattle.pdi_spec.specs.File.{File, table, partitions, partition_numbers, header, hash_block}
use Rattle.pdi_spec.specs.HashBlock.{no_block, entries_in}
use Rattle.pdi_spec.specs.Host.{host_numbers, host_answer, host_rows}
use Rattle.pdi_spec.specs.ImageRules.{AllOwnRuns}
use Rattle.pdi_spec.specs.Lists.{numbers, sum_of}
use Rattle.pdi_spec.specs.Loading.{Memory, Feed, target, load, Whole, addresses_written, Loaded}
use Rattle.pdi_spec.specs.Ranges.{loads_to}
use Rattle.pdi_spec.specs.RuleList.{reading_rules, clash_rules, plain_rules, with_rows, with_host_rows}
use Rattle.pdi_spec.specs.Rules.{image_too_long}
use Rattle.pdi_spec.specs.Stated.{Stated, by_rows, loadable, in_spans}
use Rattle.pdi_spec.specs.Twice.{PositionTwice, AddressTwice, SmallestMeeting}
use Rattle.pdi_spec.specs.Verdict.{Rule, Keeps, FirstRefusal}
use Rattle.pdi_spec.specs.Words.{word_at}
use Rattle.promises.specs.Owners.{Owners}

-- Demand 1: "a refusal changes nothing".
pub record Refusals : Type 0 where
  -- A refused read has a number from 1 to 20 and a p of at most 32, and leaves every number of the row buffer as found.
  pub read_refused : (image : List ℕ) (place : ℕ) (rows : List ℕ) → (read_answer image place rows ≡ 0 → ⊥)
      → (1 ≤ read_answer image place rows / 64)
      × (read_answer image place rows / 64 ≤ 20)
      × (read_answer image place rows % 64 ≤ 32)
      × (read_rows image place rows ≡ rows)
  -- Where its buffer serves, the bill is then 0, every body empty, and no partition has an owner.
  pub others_refused : (image : List ℕ) (place : ℕ) (rows : List ℕ) → (read_answer image place rows ≡ 0 → ⊥) → 260 ≤ length rows
      → (bill_answer image place ≡ 0) × ((p : ℕ)
      → (body_part image place p ≡ empty_part) × (body_answer image place p ≡ []) × (owner_answer image place p ≡ 0))
  -- So it is of the host's read, which leaves every byte of its row buffer.
  pub host_refused : (image : List ℕ) (place : ℕ) (bytes : List ℕ) → (host_answer image place bytes ≡ 0 → ⊥)
      → (1 ≤ host_answer image place bytes / 64)
      × (host_answer image place bytes / 64 ≤ 20)
      × (host_answer image place bytes % 64 ≤ 32)
      × (host_rows image place bytes ≡ bytes)
  pub host_others_refused : (image : List ℕ) (place : ℕ) (bytes : List ℕ) → (host_answer image place bytes ≡ 0 → ⊥) → 2080 ≤ length bytes
      → (bill_answer image place ≡ 0) × ((p : ℕ)
      → (body_part image place p ≡ empty_part) × (body_answer image place p ≡ []) × (owner_answer image place p ≡ 0))

-- Demand 2: "an image is accepted exactly when it keeps the rules".
pub record Acceptance : Type 0 where
  -- Read's rules are numbered 1 to 20, in that order, and each is tried in ascending order of p.
  pub numbered : (n : ℕ) → map (λ (r : Rule). r.number) (with_rows n plain_rules) ≡ numbers 1 20
  pub ascending : (n : ℕ) (f : File) (r : Rule) → Mem r (with_rows n plain_rules) → Pairwise (λ (a b : ℕ). a < b) (r.tried f)
  -- Accepted exactly when every rule is kept.
  pub accepts : (image : List ℕ) (place : ℕ) (rows : List ℕ)
      → (read_answer image place rows ≡ 0) ↔ Keeps (with_rows (length rows) plain_rules) (asked image place)
  -- Refused by the lowest broken number, at the smallest p.
  pub refuses : (image : List ℕ) (place : ℕ) (rows : List ℕ) (k p : ℕ) → 1 ≤ k → p < 64
      → (read_answer image place rows ≡ 64 * k + p) ↔ FirstRefusal (with_rows (length rows) plain_rules) (asked image place) k p
  -- With rules 1 to 17 kept, 18 exactly when a position is claimed twice, and 19 exactly when no position but an address is.
  pub claimed_twice : (image : List ℕ) (place : ℕ) (rows : List ℕ) → Keeps (with_rows (length rows) reading_rules) (asked image place)
      → ((read_answer image place rows ≡ 64 * 18) ↔ PositionTwice (asked image place))
      × ((read_answer image place rows / 64 ≡ 19) ↔ ((PositionTwice (asked image place) → ⊥) × AddressTwice (asked image place)))
      × (read_answer image place rows / 64 ≡ 19 → SmallestMeeting (asked image place) (read_answer image place rows % 64))
  -- With rules 1 to 19 kept, 20 exactly when the images don't own runs of the chain.
  pub image_runs : (image : List ℕ) (place : ℕ) (rows : List ℕ)
      → Keeps (with_rows (length rows) (reading_rules ++ clash_rules)) (asked image place)
      → (read_answer image place rows ≡ 64 * 20) ↔ (AllOwnRuns (asked image place) → ⊥)
  -- A buffer that is too short gives number 1 for an image that is too long, and else 2.
  pub short : (image : List ℕ) (place : ℕ) (rows : List ℕ) → length rows < 260
      → read_answer image place rows ≡ 64 * cond (image_too_long (asked image place)) 1 2
  pub host_short : (image : List ℕ) (place : ℕ) (bytes : List ℕ) → length bytes < 2080
      → host_answer image place bytes ≡ 64 * cond (image_too_long (asked image place)) 1 2
  -- The host's call accepts exactly when every rule of its list is kept. It answers as read does of the buffer's numbers, and beside any
  -- buffer of read's where both serve or neither does.
  pub host_accepts : (image : List ℕ) (place : ℕ) (bytes : List ℕ)
      → (host_answer image place bytes ≡ 0) ↔ Keeps (with_host_rows (length bytes) plain_rules) (asked image place)
  pub host_answers : (image : List ℕ) (place : ℕ) (bytes : List ℕ)
      → host_answer image place bytes ≡ read_answer image place (host_numbers bytes)
  pub host_beside_read : (image : List ℕ) (place : ℕ) (bytes rows : List ℕ) → ((260 ≤ length rows) ↔ (2080 ≤ length bytes))
      → host_answer image place bytes ≡ read_answer image place rows
  -- It refuses by the lowest broken number too, what is claimed twice by 18 and 19, and images without their runs by 20.
  pub host_refuses : (image : List ℕ) (place : ℕ) (bytes : List ℕ) (k p : ℕ) → 1 ≤ k → p < 64
      → (host_answer image place bytes ≡ 64 * k + p) ↔ FirstRefusal (with_host_rows (length bytes) plain_rules) (asked image place) k p
  pub host_claimed_twice : (image : List ℕ) (place : ℕ) (bytes : List ℕ)
      → Keeps (with_host_rows (length bytes) reading_rules) (asked image place)
      → ((host_answer image place bytes ≡ 64 * 18) ↔ PositionTwice (asked image place))
      × ((host_answer image place bytes / 64 ≡ 19) ↔ ((PositionTwice (asked image place) → ⊥) × AddressTwice (asked image place)))
      × (host_answer image place bytes / 64 ≡ 19 → SmallestMeeting (asked image place) (host_answer image place bytes % 64))
  pub host_image_runs : (image : List ℕ) (place : ℕ) (bytes : List ℕ)
      → Keeps (with_host_rows (length bytes) (reading_rules ++ clash_rules)) (asked image place)
      → (host_answer image place bytes ≡ 64 * 20) ↔ (AllOwnRuns (asked image place) → ⊥)
  -- Document 01's starred cases, 16 of them, answer, write and bill as it says.
  pub cases : (length starred ≡ 16) × (map seen starred ≡ map (λ (c : Case). c.says) starred)

-- Demand 2: "and then rows, bill and bodies are those the headers state".
pub record Statements : Type 0 where
  -- The head: kind, images, N, billed bytes.
  pub head : (image : List ℕ) (place : ℕ) (rows : List ℕ) → read_answer image place rows ≡ 0
      → take 4 (read_rows image place rows)
      ≡ (table (asked image place)).kind
      ∷ (table (asked image place)).images
      ∷ partitions (asked image place)
      ∷ 4 * sum_of (map (λ (p : ℕ). (header (asked image place) p).total) (partition_numbers (asked image place)))
      ∷ []
  -- Row p: span start, span length, loaded bytes, load address, execution address, key word, hash entry, attribute word.
  pub row : (image : List ℕ) (place : ℕ) (rows : List ℕ) → read_answer image place rows ≡ 0
      → (p : ℕ) → 1 ≤ p → p ≤ partitions (asked image place)
      → take 8 (drop (4 + 8 * (p - 1)) (read_rows image place rows))
      ≡ 4 * (header (asked image place) p).data_offset
      ∷ 4 * (header (asked image place) p).total
      ∷ 4 * (header (asked image place) p).unencrypted
      ∷ ((header (asked image place) p).load_low + 2 ^ 32 * (header (asked image place) p).load_high)
      ∷ (header (asked image place) p).execution
      ∷ (header (asked image place) p).key
      ∷ hash_entry (asked image place) p
      ∷ (header (asked image place) p).attributes
      ∷ []
  -- Its hash entry is 0 where there is no block, and else the byte offset of the block's one entry with the index p.
  pub hash_entries : (image : List ℕ) (place : ℕ) (rows : List ℕ) → read_answer image place rows ≡ 0
      → (p : ℕ) → 1 ≤ p → p ≤ partitions (asked image place)
      → ((no_block (hash_block (asked image place) p) ≡ true) × (hash_entry (asked image place) p ≡ 0))
      ⊎ ((k : ℕ)
      × (k < entries_in (hash_block (asked image place) p).size)
      × (hash_entry (asked image place) p ≡ 4 * (hash_block (asked image place) p).offset + 52 * k)
      × (word_at image (hash_entry (asked image place) p) ≡ p)
      × ((j : ℕ) → j < entries_in (hash_block (asked image place) p).size
      → word_at image (4 * (hash_block (asked image place) p).offset + 52 * j) ≡ p → j ≡ k))
  -- Only the first 4 + 8N numbers change, and the buffer stays as long.
  pub rest : (image : List ℕ) (place : ℕ) (rows : List ℕ) → read_answer image place rows ≡ 0
      → drop (4 + 8 * partitions (asked image place)) (read_rows image place rows) ≡ drop (4 + 8 * partitions (asked image place)) rows
  pub as_long : (image : List ℕ) (place : ℕ) (rows : List ℕ) → length (read_rows image place rows) ≡ length rows
  -- The bill is 4 × the sum of all T, and the fourth number of read's head equals it.
  pub bill : (image : List ℕ) (place : ℕ) (rows : List ℕ) → read_answer image place rows ≡ 0
      → bill_answer image place ≡ 4 * sum_of (map (λ (p : ℕ). (header (asked image place) p).total) (partition_numbers (asked image place)))
  pub fourth : (image : List ℕ) (place : ℕ) (rows : List ℕ) → read_answer image place rows ≡ 0
      → take 1 (drop 3 (read_rows image place rows)) ≡ bill_answer image place ∷ []
  -- Body p is the first 4E bytes from the span's start on, and for any other p empty.
  pub bodies : (image : List ℕ) (place : ℕ) (rows : List ℕ) → read_answer image place rows ≡ 0
      → (p : ℕ) → 1 ≤ p → p ≤ partitions (asked image place)
      → ((body_part image place p).start ≡ 4 * (header (asked image place) p).data_offset)
      × (body_answer image place p
      ≡ take (4 * (header (asked image place) p).encrypted) (drop (4 * (header (asked image place) p).data_offset) image))
      × (length (body_answer image place p) ≡ 4 * (header (asked image place) p).encrypted)
  pub no_body : (image : List ℕ) (place p : ℕ) → (p < 1) ⊎ (partitions (asked image place) < p) → body_answer image place p ≡ []
  -- The host's row buffer, read as numbers, is what read leaves of those numbers.
  pub host_leaves_rows : (image : List ℕ) (place : ℕ) (bytes : List ℕ) → ((i : ℕ) → get_or image i 0 < 256)
      → host_numbers (host_rows image place bytes) ≡ read_rows image place (host_numbers bytes)

-- Demand 3: "loading accepted partitions in any order gives one memory, no address written twice", by the rows that read wrote.
pub record Loading : Type 0 where
  -- Byte i of each partition's bytes ends at its load address + i ..
  pub loaded : (image : List ℕ) (place : ℕ) (rows : List ℕ) → read_answer image place rows ≡ 0
      → (m : Memory) (feeds : List Feed) → Whole (by_rows (read_rows image place rows)) feeds
      → (d : Feed) → Mem d feeds → (i : ℕ) → i < (target (by_rows (read_rows image place rows)) d).addresses.size
      → load (by_rows (read_rows image place rows)) m feeds ((target (by_rows (read_rows image place rows)) d).addresses.start + i)
      ≡ get_or d.bytes i 0
  -- .. every other address stays ..
  pub untouched : (image : List ℕ) (place : ℕ) (rows : List ℕ) → read_answer image place rows ≡ 0
      → (m : Memory) (feeds : List Feed) → Whole (by_rows (read_rows image place rows)) feeds → (address : ℕ)
      → ((p : ℕ) → Mem p (loadable (by_rows (read_rows image place rows)))
      → loads_to ((by_rows (read_rows image place rows)).load_range p) address ≡ false)
      → load (by_rows (read_rows image place rows)) m feeds address ≡ m address
  -- .. in any order the memory is the same, no address is written twice, and each is below 2^64.
  pub one_memory : (image : List ℕ) (place : ℕ) (rows : List ℕ) → read_answer image place rows ≡ 0
      → (m : Memory) (feeds others : List Feed) → Whole (by_rows (read_rows image place rows)) feeds → Perm feeds others
      → load (by_rows (read_rows image place rows)) m others ≡ load (by_rows (read_rows image place rows)) m feeds
  pub once : (image : List ℕ) (place : ℕ) (rows : List ℕ) → read_answer image place rows ≡ 0
      → (feeds : List Feed) → Whole (by_rows (read_rows image place rows)) feeds
      → Nodup (addresses_written (by_rows (read_rows image place rows)) feeds)
      × ((address : ℕ) → Mem address (addresses_written (by_rows (read_rows image place rows)) feeds) → address < 2 ^ 64)
  -- All of this holds by the rows in the host's bytes as well.
  pub host_loaded : (image : List ℕ) (place : ℕ) (bytes : List ℕ) → ((i : ℕ) → get_or image i 0 < 256) → host_answer image place bytes ≡ 0
      → (m : Memory) (feeds : List Feed) → Whole (by_rows (host_numbers (host_rows image place bytes))) feeds
      → Loaded (by_rows (host_numbers (host_rows image place bytes))) m feeds
  -- The addresses written are those of the fed partitions' load ranges, and there is such a list, whatever bytes are chosen.
  pub written : (s : Stated) (feeds : List Feed) (address : ℕ)
      → Mem address (addresses_written s feeds)
      ↔ ∥ ((d : Feed) × Mem d feeds × (loads_to (s.load_range d.partition) address ≡ true)) ∥₁
  pub exists : (s : Stated) (chosen : ℕ → List ℕ) → ((p : ℕ) → length (chosen p) ≡ (s.load_range p).addresses.size)
      → Whole s (map (λ (p : ℕ). record { partition = p; bytes = chosen p }) (loadable s))

-- Demand 3: "the bill is the count of positions in at least one span", of the rows that read wrote and of those that the host's call did.
pub record Counting : Type 0 where
  pub counted : (image : List ℕ) (place : ℕ) (rows : List ℕ) → read_answer image place rows ≡ 0
      → bill_answer image place ≡ in_spans (by_rows (read_rows image place rows)) (length image)
  pub host_counted : (image : List ℕ) (place : ℕ) (bytes : List ℕ) → ((i : ℕ) → get_or image i 0 < 256) → host_answer image place bytes ≡ 0
      → bill_answer image place ≡ in_spans (by_rows (host_numbers (host_rows image place bytes))) (length image)
  -- No image is billed more than its length.
  pub at_most : (image : List ℕ) (place : ℕ) → bill_answer image place ≤ length image

pub record Demands : Type 0 where
  pub refusals : Refusals
  pub acceptance : Acceptance
  pub statements : Statements
  pub owners : Owners
  pub loading : Loading
  pub counting : Counting
