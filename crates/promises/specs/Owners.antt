-- Document 02, CR 1: "A new question gives the owner image of partition p". What is claimed of it, gathered as Demands.antt gathers the
-- demands: each field is a sentence, restated whole from the definitions. Assumes nothing.
use Rattle.std.specs.Prelude.{ℕ, ◌+◌, ◌*◌, ◌-◌, ◌≤◌, ◌<◌, List, map, ◌↔◌, ◌⊎◌, ◌≡◌, eqb, length}
use Rattle.pdi_spec.specs.Answers.{asked, read_answer, owner_answer}
use Rattle.pdi_spec.specs.File.{File, table, partitions, partition_numbers, header}
use Rattle.pdi_spec.specs.Images.{image_header, owned_up_to, InRun}
use Rattle.pdi_spec.specs.Lists.{numbers, sum_of, count_of, First}
use Rattle.pdi_spec.specs.Words.{word_at}

-- Image i's header lies at byte 64 × (i - 1) of the image headers.
pub record Owners : Type 0 where
  -- It is "0 if the image is refused or p isn't 1 to N", and only then; refused by a read whose buffer serves.
  pub none : (image : List ℕ) (place : ℕ) (rows : List ℕ) → 260 ≤ length rows → (p : ℕ)
      → (owner_answer image place p ≡ 0)
      ↔ ((read_answer image place rows ≡ 0 → ⊥) ⊎ ((p < 1) ⊎ (partitions (asked image place) < p)))
  -- "Images own runs of the chain, in table order": p has owner i exactly where the counts of the images before i are less than p, and
  -- those up to i at least p.
  pub runs : (image : List ℕ) (place : ℕ) (rows : List ℕ) → read_answer image place rows ≡ 0
      → (i p : ℕ) → 1 ≤ i
      → (owner_answer image place p ≡ i)
      ↔ ((i ≤ (table (asked image place)).images)
      × (owned_up_to (asked image place) (i - 1) < p)
      × (p ≤ owned_up_to (asked image place) i))
  pub counts : (f : File) (i : ℕ) → owned_up_to f i ≡ sum_of (map (λ (k : ℕ). (image_header f k).partitions) (numbers 1 i))
  -- Every p from 1 to N has exactly one owner, an image from 1 to their number ..
  pub one : (image : List ℕ) (place : ℕ) (rows : List ℕ) → read_answer image place rows ≡ 0
      → (p : ℕ) → 1 ≤ p → p ≤ partitions (asked image place)
      → (1 ≤ owner_answer image place p)
      × (owner_answer image place p ≤ (table (asked image place)).images)
      × ((i : ℕ) → InRun (asked image place) i p → owner_answer image place p ≡ i)
  -- .. owners don't fall along the chain ..
  pub ascending : (image : List ℕ) (place : ℕ) (rows : List ℕ) → read_answer image place rows ≡ 0
      → (p q : ℕ) → 1 ≤ p → p ≤ q → q ≤ partitions (asked image place) → owner_answer image place p ≤ owner_answer image place q
  -- .. image i owns as many partitions as its word 1 says ..
  pub owned : (image : List ℕ) (place : ℕ) (rows : List ℕ) → read_answer image place rows ≡ 0
      → (i : ℕ) → 1 ≤ i → i ≤ (table (asked image place)).images
      → count_of (λ (p : ℕ). eqb (owner_answer image place p) i) (partition_numbers (asked image place))
      ≡ word_at image (4 * (table (asked image place)).image_header_offset + 64 * (i - 1) + 4)
  -- .. and the first of them is the one whose header its word 0 names.
  pub first : (image : List ℕ) (place : ℕ) (rows : List ℕ) → read_answer image place rows ≡ 0
      → (i : ℕ) → 1 ≤ i → i ≤ (table (asked image place)).images
      → (p : ℕ)
      × First (λ (q : ℕ). eqb (owner_answer image place q) i) (partition_numbers (asked image place)) p
      × ((header (asked image place) p).at ≡ 4 * word_at image (4 * (table (asked image place)).image_header_offset + 64 * (i - 1) + 0))
