-- What a kept rule tells of the file, by the kinds of rules and in plain numbers, and that a rule stands in a list, by its number.
-- Assumes nothing.
use Rattle.std.specs.Prelude.{ℕ, suc, ◌≤◌, ◌+◌, ◌*◌, ◌<◌, Bool, false, true, ◌≡◌, ◌⊎◌, eqb, ltb, length}
use Rattle.std.proofs.Common.{arith, ◌∙◌}
use mathlib.Core.List.{List, Mem, mem-cons_self}
use Rattle.std.proofs.Math.Option.{some}
use Rattle.std.proofs.Math.Path.{ap}
use Rattle.std.proofs.Math.Logic.{inl, inr, ⊎_elim}
use borrow.Author.Tests.{ltb-false}
use Rattle.pdi_spec.specs.{Lists.numbers, Lists.first_of, Headers.image_header_size, Headers.image_header_words_of, Images.images, Images.image_header_at, Ranges.table_with_optional, Ranges.image_headers, File.File, File.table, File.partitions, File.partition_numbers, File.header, File.hash_block, Verdict.Rule, Verdict.once, Verdict.each, Verdict.each_and_table, Verdict.Kept, Rules.span_outside, Rules.load_address_bad, Rules.hash_block_wrong, Rules.not_from, Rules.table_fields_bad, Rules.image_headers_outside, Rules.lengths_bad, RuleList.of_header, RuleList.with_header, RuleList.of_table, RuleList.with_table, RuleList.rule6, RuleList.rule9, RuleList.rule14, RuleList.rule15, RuleList.rule16, RuleList.rule17, Limits.most_images, Limits.most_partitions, Words.word_at, HashBlock.no_block, HashBlock.entry_at, HashBlock.entries_in, Ranges.end_of, Ranges.past, Ranges.span, Ranges.load_address_of, Ranges.load_range, Ranges.loads, Ranges.address_space, Ranges.Range, Answers.hash_entry}
use Rattle.pdi_spec.proofs.Laws.{Tests.equal_told, Firsts.first_mem, Firsts.first_some, Tests.numbers_mem, Tests.either, Tests.or_left, Tests.or_right, Tests.false_at, HashBlock.own_entry, HashBlock.no_entry, HashBlock.not_bad}

-- ---- by the kinds of rules

pub kept_once : (k : ℕ) (c : File → Bool) (f : File) → Kept (once k c) f → c f ≡ false
unfolding Kept once
kept_once k c f h = h 0 mem-cons_self

pub kept_each : (k : ℕ) (c : File → ℕ → Bool) (f : File) → Kept (each k c) f → (p : ℕ) → Mem p (partition_numbers f) → c f p ≡ false
unfolding Kept each
kept_each k c f h p m = h p m

pub kept_with_table : (k : ℕ) (c : File → ℕ → Bool) (f : File) → Kept (each_and_table k c) f
    → (p : ℕ) → Mem p (numbers 0 (suc (partitions f))) → c f p ≡ false
unfolding Kept each_and_table
kept_with_table k c f h p m = h p m

-- p from 1 to N is tried
pub partition_mem : (f : File) (p : ℕ) → 1 ≤ p → p ≤ partitions f → Mem p (partition_numbers f)
unfolding partition_numbers
partition_mem f p l h = numbers_mem 1 (partitions f) l (omega arith)

-- the rule of a number stands in the list
pub by_number : (k : ℕ) (rs : List Rule) {r : Rule} → first_of (λ (s : Rule). eqb s.number k) rs ≡ some r → Mem r rs
by_number k rs {r} e = first_mem _ rs r (first_some _ rs r e)

-- ---- inside the image, and in the address space

-- the range's end is at most the image's length
unfoldable pub Inside : File → Range → Type 0
Inside f r = end_of r ≤ length f.bytes

pub not_past : (f : File) (r : Range) → past (length f.bytes) r ≡ false → Inside f r
unfolding past Inside
not_past f r e = ltb-false (length f.bytes) (end_of r) e

pub span_inside : (f : File) (p : ℕ) → span_outside f.bytes (header f p) ≡ false → Inside f (span f p)
unfolding span_outside span
span_inside f p e = not_past f (span f p) (or_left (past (length f.bytes) (span f p)) _ e)

-- a load range that rule 16 has passed ends in the address space
pub load_in_space : (f : File) (p : ℕ) → loads f p ≡ true → load_address_bad (header f p) ≡ false
    → past address_space (load_range f p).addresses ≡ false
unfolding load_address_bad loads load_range
load_in_space f p l k = rw l at k

-- ---- what rules 6 and 14 to 17 ask

from_to : (low high n : ℕ) → not_from low high n ≡ false → (low ≤ n) × (n ≤ high)
unfolding not_from
from_to low high n e =
    (ltb-false n low (or_left (ltb n low) (ltb high n) e), ltb-false high n (or_right (ltb n low) (ltb high n) e))

pub counts_stated : (f : File) → Kept rule6 f
    → (1 ≤ (table f).images) × ((table f).images ≤ most_images) × (1 ≤ partitions f) × (partitions f ≤ most_partitions)
unfolding table_fields_bad partitions
counts_stated f k =
    let e = kept_once 6 (of_table table_fields_bad) f k in
    let images = from_to 1 most_images (table f).images (false_at _ e 0) in
    let chain = from_to 1 most_partitions (partitions f) (false_at _ e 1) in
    (images.0, images.1, chain.0, chain.1)

pub image_headers_stated : (f : File) → Kept rule6 f → image_header_words_of (table f).header_sizes ≡ 16
unfolding table_fields_bad
image_headers_stated f k = equal_told _ 16 (false_at _ (kept_once 6 (of_table table_fields_bad) f k) 3)

-- so, with rule 9, each image header lies inside the image
pub image_header_inside : (f : File) → Kept rule6 f → Kept rule9 f → (i : ℕ) → i < images f
    → image_header_at f (i + 1) + image_header_size ≤ length f.bytes
unfolding image_headers_outside Inside end_of images image_header_at
image_header_inside f six nine i h =
    let outside = kept_once 9 (with_table image_headers_outside) f nine in
    let all = not_past f (image_headers (table f)) (or_right (past (length f.bytes) (table_with_optional (table f))) _ outside) in
    let size = ap (λ (n : ℕ). 4 * ((table f).images * n)) (image_headers_stated f six) in
    omega (arith, all, size)

module _ (f : File) (p : ℕ) (low : 1 ≤ p) (high : p ≤ partitions f) where
  pub lengths_stated : Kept rule14 f
      → (1 ≤ (header f p).unencrypted)
      × ((header f p).unencrypted ≤ (header f p).encrypted)
      × ((header f p).encrypted ≤ (header f p).total)
      × ((header f p).key_actual ≤ (header f p).key_total)
      × ((header f p).signature_actual ≤ (header f p).signature_total)
  unfolding lengths_bad
  lengths_stated k =
      let e = kept_each 14 (of_header lengths_bad) f k p (partition_mem f p low high) in (
        ltb-false _ _ (false_at _ e 0),
        ltb-false _ _ (false_at _ e 1),
        ltb-false _ _ (false_at _ e 2),
        ltb-false _ _ (false_at _ e 3),
        ltb-false _ _ (false_at _ e 4),
      )

  pub span_stated : Kept rule15 f → 4 * (header f p).data_offset + 4 * (header f p).total ≤ length f.bytes
  unfolding Inside end_of span
  span_stated k = span_inside f p (kept_each 15 (with_header span_outside) f k p (partition_mem f p low high))

  pub load_stated : Kept rule16 f → loads f p ≡ true
      → load_address_of (header f p) + 4 * (header f p).unencrypted ≤ 0x1_0000_0000_0000_0000
  unfolding past end_of load_range address_space
  load_stated k l =
      ltb-false address_space _ (load_in_space f p l (kept_each 16 (of_header load_address_bad) f k p (partition_mem f p low high)))

  pub hash_entry_stated : Kept rule17 f
      → ((no_block (hash_block f p) ≡ true) × (hash_entry f p ≡ 0))
      ⊎ ((k : ℕ)
      × (k < entries_in (hash_block f p).size)
      × (hash_entry f p ≡ 4 * (hash_block f p).offset + 52 * k)
      × (word_at f.bytes (hash_entry f p) ≡ p)
      × ((j : ℕ) → j < entries_in (hash_block f p).size → word_at f.bytes (4 * (hash_block f p).offset + 52 * j) ≡ p → j ≡ k))
  unfolding hash_entry entry_at
  hash_entry_stated k =
      ⊎_elim (λ e. inl (e, no_entry f.bytes p (hash_block f p) e))
      (λ e.
      let kept = kept_with_table 17 hash_block_wrong f k p (numbers_mem 0 (suc (partitions f)) (omega arith) (omega arith)) in
      let t = own_entry f.bytes p (hash_block f p) (not_bad f p e kept) in
      inr (t.0, t.1, t.2, ap (word_at f.bytes) t.2 ∙ t.3, t.4))
      (either (no_block (hash_block f p)))
