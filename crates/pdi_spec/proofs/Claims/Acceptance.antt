-- Claims, demand 2: an image is accepted exactly when it keeps the rules, and what some of them ask, in plain numbers. Assumes nothing.
use Rattle.std.specs.Prelude.{ℕ, ◌+◌, ◌*◌, ◌≤◌, ◌<◌, true, ◌↔◌, ◌≡◌, length}
use mathlib.Core.List.{List, Mem, Pairwise}
use Rattle.pdi_spec.specs.{Limits.most_images, Limits.most_partitions, Limits.buffer_numbers, Limits.buffer_bytes, Headers.image_header_words_of, ImageRules.AllOwnRuns, File.File, File.table, File.partitions, File.header, Ranges.load_address_of, Ranges.loads, Verdict.Rule, Verdict.accepted, Verdict.refused, Verdict.verdict, Verdict.Kept, Verdict.Keeps, Verdict.FirstRefusal, RuleList.rule6, RuleList.rule20, RuleList.rule14, RuleList.rule15, RuleList.rule16, RuleList.plain_rules, RuleList.without_buffer, RuleList.with_buffer, Answers.asked, Answers.read_answer, Host.host_answer}
use Rattle.pdi_spec.proofs.Laws.{Plain.plain}
use Rattle.pdi_spec.proofs.Laws

-- A list of rules accepts a file exactly where every rule is kept.
pub accepted_exactly : (rs : List Rule) (f : File) → (verdict rs f ≡ accepted) ↔ Keeps rs f
accepted_exactly rs f = (Laws.Verdict.accepted_keeps rs f, Laws.Verdict.keeps_accepted rs f)

-- A refusal (k, p) names a rule of the list that is broken at p and at no p tried before, with every earlier rule kept everywhere.
pub refused_exactly : (rs : List Rule) (f : File) (k p : ℕ) → (verdict rs f ≡ refused k p) ↔ FirstRefusal rs f k p
refused_exactly rs f k p = (Laws.Verdict.refused_first rs f k p, Laws.Verdict.first_refused rs f k p)

-- Rules are listed by ascending number, and each is tried in ascending order, so the first p is the smallest.
pub tried_ascending : (least have : ℕ) (f : File) (r : Rule) → Mem r (with_buffer least have plain_rules)
    → Pairwise (λ (a b : ℕ). a < b) (r.tried f)
tried_ascending least have f r m = (Laws.Refusals.well_tried plain least have r m).ascending f

-- Read answers 0 exactly where 260 numbers are lent and bill's list accepts.
pub read_accepts : (image : List ℕ) (place : ℕ) (rows : List ℕ)
    → (read_answer image place rows ≡ 0)
    ↔ ((buffer_numbers ≤ length rows) × (verdict (without_buffer plain_rules) (asked image place) ≡ accepted))
read_accepts = Laws.Answers.read_accepts plain

-- The host's read does so where 2,080 bytes are.
pub host_accepts : (image : List ℕ) (place : ℕ) (rows : List ℕ)
    → (host_answer image place rows ≡ 0)
    ↔ ((buffer_bytes ≤ length rows) × (verdict (without_buffer plain_rules) (asked image place) ≡ accepted))
host_accepts = Laws.Answers.host_accepts plain

-- Rule 6 asks for 1 to 32 images and 1 to 32 partitions.
pub counts_stated : (f : File) → Kept rule6 f
    → (1 ≤ (table f).images) × ((table f).images ≤ most_images) × (1 ≤ partitions f) × (partitions f ≤ most_partitions)
counts_stated = Laws.Kept.counts_stated

-- It asks for image headers of 16 words (document 02, CR 1).
pub image_headers_stated : (f : File) → Kept rule6 f → image_header_words_of (table f).header_sizes ≡ 16
image_headers_stated = Laws.Kept.image_headers_stated

-- Rule 20 is kept exactly where every image owns its run of the chain and the runs are the whole chain.
pub runs_stated : (f : File) → Kept rule20 f ↔ AllOwnRuns f
runs_stated = Laws.Images.runs_stated

-- Rule 14 asks that 1 ≤ U ≤ E ≤ T, and for no actual size over its total.
pub lengths_stated : (f : File) (p : ℕ) → 1 ≤ p → p ≤ partitions f → Kept rule14 f
    → (1 ≤ (header f p).unencrypted)
    × ((header f p).unencrypted ≤ (header f p).encrypted)
    × ((header f p).encrypted ≤ (header f p).total)
    × ((header f p).key_actual ≤ (header f p).key_total)
    × ((header f p).signature_actual ≤ (header f p).signature_total)
lengths_stated = Laws.Kept.lengths_stated

-- Rule 15 asks that the span ends within the image.
pub span_stated : (f : File) (p : ℕ) → 1 ≤ p → p ≤ partitions f → Kept rule15 f
    → 4 * (header f p).data_offset + 4 * (header f p).total ≤ length f.bytes
span_stated = Laws.Kept.span_stated

-- Rule 16 asks that a load range ends at 2^64 at most.
pub load_stated : (f : File) (p : ℕ) → 1 ≤ p → p ≤ partitions f → Kept rule16 f → loads f p ≡ true
    → load_address_of (header f p) + 4 * (header f p).unencrypted ≤ 0x1_0000_0000_0000_0000
load_stated = Laws.Kept.load_stated
