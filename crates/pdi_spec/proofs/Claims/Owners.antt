-- Claims of document 02, CR 1: which answers are 20; and of owner's answer, for every image and place, where it is 0, and which partitions
-- each image of an accepted one owns. Assumes nothing.
use Rattle.std.specs.Prelude.{ℕ, ◌*◌, ◌≤◌, ◌<◌, ◌↔◌, ◌⊎◌, ◌≡◌, eqb, length}
use mathlib.Core.List.{List, ◌∷◌, ◌++◌, map, Mem}
use Rattle.pdi_spec.specs.{Limits.buffer_numbers, Limits.buffer_bytes, Limits.answer_unit, Lists.numbers, Lists.sum_of, Lists.count_of, Lists.First, File.File, File.partitions, File.partition_numbers, File.header, Images.images, Images.image_header, Images.owned_up_to, Images.InRun, ImageRules.AllOwnRuns, Verdict.Rule, Verdict.refused, Verdict.verdict, Verdict.Keeps, RuleList.rule20, RuleList.reading_rules, RuleList.clash_rules, RuleList.with_rows, RuleList.with_host_rows, Answers.asked, Answers.read_by, Host.host_read_by, Host.host_answer, Answers.read_answer, Answers.owner_answer}
use Rattle.pdi_spec.proofs.Laws.{Plain.plain}
use Rattle.pdi_spec.proofs.Laws

-- How many partitions the images 1 to i own is the sum of their counts.
pub owned_sum : (f : File) (i : ℕ) → owned_up_to f i ≡ sum_of (map (λ (k : ℕ). (image_header f k).partitions) (numbers 1 i))
owned_sum = Laws.Images.owned_sum

-- With the rules before 20 kept, and only higher numbers after it: refused with 20 exactly where the images don't own runs of the chain,
-- and then with p = 0.
pub refused_20 : (f : File) (before after : List Rule) → Keeps before f → ((r : Rule) → Mem r after → 20 < r.number)
    → (p : ℕ) → (verdict (before ++ (rule20 ∷ after)) f ≡ refused 20 p) ↔ ((AllOwnRuns f → ⊥) × (p ≡ 0))
refused_20 = Laws.ImageVerdict.refused_20

-- The host's call, with rules 1 to 19 kept: 64 × 20 exactly where the images don't own runs of the chain ..
pub host_runs : (image : List ℕ) (place : ℕ) (bytes : List ℕ)
    → Keeps (with_host_rows (length bytes) (reading_rules ++ clash_rules)) (asked image place)
    → (host_answer image place bytes ≡ answer_unit * 20) ↔ (AllOwnRuns (asked image place) → ⊥)
unfolding host_read_by with_host_rows
host_runs image place bytes = Laws.ImageVerdict.answers_20 buffer_bytes (length bytes) (asked image place)

module _ (image : List ℕ) (place : ℕ) (rows : List ℕ) where
  -- .. and so it is of read.
  pub read_runs : Keeps (with_rows (length rows) (reading_rules ++ clash_rules)) (asked image place)
      → (read_answer image place rows ≡ answer_unit * 20) ↔ (AllOwnRuns (asked image place) → ⊥)
  unfolding read_by with_rows
  read_runs = Laws.ImageVerdict.answers_20 buffer_numbers (length rows) (asked image place)

  -- With a row buffer that serves: owner answers 0 exactly where read refuses or p isn't 1 to N.
  pub owner_zero : buffer_numbers ≤ length rows → (p : ℕ)
      → (owner_answer image place p ≡ 0)
      ↔ ((read_answer image place rows ≡ 0 → ⊥) ⊎ ((p < 1) ⊎ (partitions (asked image place) < p)))
  owner_zero = Laws.Owners.owner_zero plain image place rows

  -- ---- where read accepts

  module _ (e : read_answer image place rows ≡ 0) where
    -- p has owner i exactly where the counts of the images before i are less than p, and those up to i at least p.
    pub owner_exactly : (i p : ℕ) → 1 ≤ i → (owner_answer image place p ≡ i) ↔ InRun (asked image place) i p
    owner_exactly = Laws.Owners.owner_exactly plain image place ((Laws.Answers.read_accepts plain image place rows).0 e).1

    -- Every p from 1 to N has exactly one owner, from 1 to the number of images.
    pub one_owner : (p : ℕ) → 1 ≤ p → p ≤ partitions (asked image place)
        → (1 ≤ owner_answer image place p)
        × (owner_answer image place p ≤ images (asked image place))
        × ((i : ℕ) → InRun (asked image place) i p → owner_answer image place p ≡ i)
    one_owner p low high =
        let run = Laws.Owners.in_run plain image place ((Laws.Answers.read_accepts plain image place rows).0 e).1 p low high in
        (run.counted, run.listed, λ i a. (owner_exactly i p a.counted).1 a)

    -- Owners don't fall along the chain.
    pub owners_ascend : (p q : ℕ) → 1 ≤ p → p ≤ q → q ≤ partitions (asked image place)
        → owner_answer image place p ≤ owner_answer image place q
    owners_ascend = Laws.Owners.owners_ascend plain image place ((Laws.Answers.read_accepts plain image place rows).0 e).1

    -- Image i owns exactly as many partitions as its word 1 says ..
    pub owns_count : (i : ℕ) → 1 ≤ i → i ≤ images (asked image place)
        → count_of (λ (p : ℕ). eqb (owner_answer image place p) i) (partition_numbers (asked image place))
        ≡ (image_header (asked image place) i).partitions
    owns_count = Laws.Owners.owns_count plain image place ((Laws.Answers.read_accepts plain image place rows).0 e).1

    -- .. and the first of them is the one whose header its word 0 names.
    pub owns_first : (i : ℕ) → 1 ≤ i → i ≤ images (asked image place)
        → (p : ℕ)
        × First (λ (q : ℕ). eqb (owner_answer image place q) i) (partition_numbers (asked image place)) p
        × ((header (asked image place) p).at ≡ 4 * (image_header (asked image place) i).first_header_offset)
    owns_first = Laws.Owners.owns_first plain image place ((Laws.Answers.read_accepts plain image place rows).0 e).1
