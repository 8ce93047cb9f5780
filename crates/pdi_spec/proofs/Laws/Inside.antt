-- Where rules 3 to 17 are kept, every range of rule 18 lies inside the image. Assumes nothing.
use Rattle.std.specs.Prelude.{ℕ, suc, ◌%◌, ◌≤◌, Bool, cond, not, ◌≡◌, eqb}
use Rattle.std.proofs.Common.{arith, subst}
use Rattle.std.proofs.Math.Bridge.{le_prop}
use Rattle.std.proofs.Math.Bool.{true, false}
use mathlib.Core.List.{List, [], ◌∷◌, ◌++◌, map, Mem, not-mem-nil, mem-append, exists_of_mem-map, forall_mem-cons}
use Rattle.std.proofs.Math.Logic.Or
use Rattle.std.proofs.Math.Logic.{∥∥₁_elim}
use Rattle.std.proofs.Math.Path.{refl}
use Rattle.std.proofs.Math.Option.{some}
use Rattle.std.proofs.Math.ListN.{length}
use borrow.Author.Tests.{ltb-false}
use Rattle.pdi_spec.specs.{Lists.numbers, Lists.first_of, Headers.boot_size, Headers.table_from, Headers.boot_from, File.File, File.table, File.partitions, File.partition_numbers, File.header, File.is_full, File.hash_block, HashBlock.no_block, Ranges.block_ranges, Ranges.Range, Ranges.end_of, Ranges.past, Ranges.boot_range, Ranges.table_range, Ranges.table_with_optional, Ranges.image_headers, Ranges.header_range, Ranges.span, Ranges.block_range, Ranges.spans, Ranges.header_ranges, Ranges.hash_blocks, Verdict.Keeps, Verdict.Rule, Verdict.once, Verdict.each, Verdict.each_and_table, Verdict.Kept, Rules.table_outside, Rules.boot_header_wrong, Rules.boot_header_bad, Rules.image_headers_outside, Rules.chain_broken, Rules.span_outside, Rules.hash_block_bad, Rules.hash_block_wrong, RuleList.reading_rules, RuleList.table_rules, RuleList.header_rules, RuleList.partition_rules, RuleList.with_table, RuleList.with_header}
use Rattle.pdi_spec.proofs.Laws.{Lists.mem_flat_map, HashBlock.not_bad, Tests.or_left, Tests.or_right, Tests.false_at, Kept.kept_once, Kept.kept_each, Kept.kept_with_table, Kept.by_number, Kept.Inside, Kept.not_past, Kept.span_inside}

-- a rule of that number, of rules 3 to 17
pub reading_kept : (f : File) → Keeps reading_rules f
    → (k : ℕ) {r : Rule} → first_of (λ (s : Rule). eqb s.number k) reading_rules ≡ some r → Kept r f
unfolding Keeps
reading_kept f keeps k {r} e = keeps r (by_number k reading_rules e)

-- what holds of f x for each x of a list holds of each entry of the mapped list
inside_map : (f : File) (g : ℕ → Range) (xs : List ℕ) → ((x : ℕ) → Mem x xs → Inside f (g x))
    → (r : Range) → Mem r (map g xs) → Inside f r
unfolding Inside
inside_map f g xs h r m =
    ∥∥₁_elim (exists_of_mem-map m) le_prop (λ t. subst (λ (q : Range). end_of q ≤ length f.bytes) t.2 (h t.0 t.1))

inside_either : (f : File) (xs ys : List Range) → ((r : Range) → Mem r xs → Inside f r) → ((r : Range) → Mem r ys → Inside f r)
    → (r : Range) → Mem r (xs ++ ys) → Inside f r
unfolding Inside
inside_either f xs ys h k r m = Or.elim le_prop (mem-append.0 m) (h r) (k r)

inside_cons : (f : File) (x : Range) (xs : List Range) → Inside f x → ((r : Range) → Mem r xs → Inside f r)
    → (r : Range) → Mem r (x ∷ xs) → Inside f r
unfolding Inside
inside_cons f x xs h k = (forall_mem-cons (λ r. le_prop)).1 (h, k)

inside_none : (f : File) (r : Range) → Mem r [] → Inside f r
inside_none f r m = absurd (not-mem-nil m)

module _ (f : File) (keeps : Keeps reading_rules f) where
  -- a full image is longer than its boot header, as the table lies behind it
  boot_inside : is_full f ≡ true → Inside f boot_range
  unfolding Inside end_of boot_header_wrong boot_header_bad table_outside table table_from
      reading_rules table_rules partition_rules header_rules first_of once each each_and_table
  boot_inside full =
      let boot = kept_once 8 boot_header_wrong f (reading_kept f keeps 8 refl) in
      let bad : boot_header_bad f.bytes (table f) (boot_from f.bytes) ≡ false = rw full at boot in
      let place = ltb-false f.place boot_size (false_at _ bad 0) in
      let outside = kept_once 3 table_outside f (reading_kept f keeps 3 refl) in
      let end = not_past f (table_range f.place) (or_right (not (eqb (f.place % 4) 0)) _ outside) in
      omega (arith, place, end)

  boots_inside : (r : Range) → Mem r (cond (is_full f) (boot_range ∷ []) []) → Inside f r
  boots_inside = go (is_full f) refl
    where
      go : (b : Bool) → is_full f ≡ b → (r : Range) → Mem r (cond b (boot_range ∷ []) []) → Inside f r
      go true e = inside_cons f boot_range [] (boot_inside e) (inside_none f)
      go false e = inside_none f

  header_inside : (p : ℕ) → Mem p (partition_numbers f) → Inside f (header_range (header f p))
  unfolding chain_broken reading_rules table_rules partition_rules header_rules first_of once each each_and_table
  header_inside p m = not_past f (header_range (header f p)) (false_at _ (kept_each 10 chain_broken f (reading_kept f keeps 10 refl) p m) 0)

  -- every range that rule 18 wants disjoint from the others
  pub stored_inside : (r : Range) → Mem r (header_ranges f ++ spans f) → Inside f r
  unfolding header_ranges spans image_headers_outside reading_rules table_rules partition_rules header_rules first_of once each
      each_and_table
  stored_inside =
      let end = length f.bytes in
      let lie = kept_once 9 (with_table image_headers_outside) f (reading_kept f keeps 9 refl) in
      let optional = or_left (past end (table_with_optional (table f))) (past end (image_headers (table f))) lie in
      let headers = or_right (past end (table_with_optional (table f))) (past end (image_headers (table f))) lie in
      let spanned = kept_each 15 (with_header span_outside) f (reading_kept f keeps 15 refl) in
      inside_either f _ (map (span f) (partition_numbers f))
      (inside_either f (cond (is_full f) (boot_range ∷ []) []) _ boots_inside
      (inside_cons f (table_with_optional (table f)) _ (not_past f _ optional)
      (inside_cons f (image_headers (table f)) _ (not_past f _ headers)
      (inside_map f (λ (p : ℕ). header_range (header f p)) (partition_numbers f) header_inside))))
      (inside_map f (span f) (partition_numbers f) (λ p m. span_inside f p (spanned p m)))

  -- and every hash block
  block_inside : (i : ℕ) → Mem i (numbers 0 (suc (partitions f))) → (r : Range) → Mem r (block_ranges (hash_block f i)) → Inside f r
  unfolding block_ranges hash_block_bad reading_rules table_rules partition_rules header_rules first_of once each each_and_table
  block_inside i m = go (no_block (hash_block f i)) refl
    where
      go : (b : Bool) → no_block (hash_block f i) ≡ b → (r : Range) → Mem r (cond b [] (block_range (hash_block f i) ∷ [])) → Inside f r
      go true e = inside_none f
      go false e =
          let kept = kept_with_table 17 hash_block_wrong f (reading_kept f keeps 17 refl) i m in
          inside_cons f (block_range (hash_block f i)) [] (not_past f _ (false_at _ (not_bad f i e kept) 4)) (inside_none f)

  pub blocks_inside : (r : Range) → Mem r (hash_blocks f) → Inside f r
  unfolding hash_blocks Inside
  blocks_inside r m =
      ∥∥₁_elim (mem_flat_map (λ (i : ℕ). block_ranges (hash_block f i)) (numbers 0 (suc (partitions f))) m) le_prop
      (λ t. block_inside t.0 t.1 r t.2)
