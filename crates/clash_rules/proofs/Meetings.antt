-- Rule 19 by its pairs of partitions: where none meet the rule is kept, and the first p that meets an earlier one breaks it; load ranges in
-- order do not meet. Assumes nothing.
use Rattle.std.proofs.Common.{◌≡◌, ℕ, ◌+◌, ◌-◌, ◌≤◌, ◌<◌, Bool, true, false, cond, ◌&&◌, [], ◌∷◌, refl, sym, ◌∙◌, ap, arith, add_comm, below_more}
use borrow.Author.Count.{below_none}
use Rattle.std.proofs.Math.Decide.{dec_lt}
use Rattle.std.proofs.Math.Option.{Option-elim}
use Rattle.pdi_spec.specs.Attributes.{has_load_address}
use Rattle.pdi_spec.specs.File.{File, header, partitions, partition_numbers}
use Rattle.pdi_spec.specs.Lists.{numbers, any_of}
use Rattle.pdi_spec.proofs.Laws.Searches.{found, not_found, any_found, any_none}
use Rattle.pdi_spec.proofs.Laws.Tests.{and_left, and_right, and_both}
use Rattle.pdi_spec.proofs.Laws.Verdict.{verdict_broken}
use Rattle.pdi_spec.specs.Ranges.{Range, end_of, overlap, meet, loads, load_range, load_range_of}
use Rattle.pdi_spec.specs.RuleList.{rule19}
use Rattle.pdi_spec.specs.Rules.{load_ranges_clash}
use Rattle.pdi_spec.specs.Verdict.{each, verdict, accepted, refused}
use Rattle.chain_rules.specs.File.{file_of_chain}
use Rattle.chain_rules.specs.declared.chain.Chain.{Chain}
use Rattle.chain_rules.proofs.Counts.{counted}
use Rattle.range_lists.specs.Parts.{load_of}
use Rattle.ranges.specs.Range.{ends_before}
use Rattle.pairs.proofs.Following.{apart, ends_before_lem}

abbrev none : Range
none = record { start = 0; size = 0 }

module _ (f : File) where
  -- the load range of partition p, and whether it meets that of an earlier one
  abbrev pub load : ℕ → Range
  load p = load_of (header f p)

  abbrev earlier : ℕ → ℕ → Bool
  earlier p e = loads f e && meet (load_range f p) (load_range f e)

  pair : (p e : ℕ) → overlap (load p) (load e) ≡ (loads f p && earlier p e)
  unfolding load_of loads load_range meet end_of
  pair p e = go (has_load_address (header f p).attributes) (has_load_address (header f e).attributes)
    where
      go : (b d : Bool) → overlap (cond b (load_range_of (header f p)).addresses none) (cond d (load_range_of (header f e)).addresses none)
          ≡ (b && (d && overlap (load_range_of (header f p)).addresses (load_range_of (header f e)).addresses))
      go true true = refl
      go true false = apart (load_range_of (header f p)).addresses none (omega arith)
      go false d = apart none (cond d (load_range_of (header f e)).addresses none) (omega arith)

  pub met : (p k : ℕ) → k + 1 < p → overlap (load p) (load (k + 1)) ≡ true → load_ranges_clash f p ≡ true
  unfolding load_ranges_clash
  met p k l e =
      let both = sym (pair p (k + 1)) ∙ e in
      and_both (loads f p) _ (and_left (loads f p) (earlier p (k + 1)) both)
      (any_found (earlier p) 1 (p - 1) k (omega arith) (ap (earlier p) (add_comm 1 k) ∙ and_right (loads f p) (earlier p (k + 1)) both))

  pub unmet : (p : ℕ) → ((k : ℕ) → k + 1 < p → overlap (load p) (load (k + 1)) ≡ false) → load_ranges_clash f p ≡ false
  unfolding load_ranges_clash
  unmet p h = go (loads f p) (λ k l. sym (pair p (k + 1)) ∙ h k l)
    where
      go : (b : Bool) → ((k : ℕ) → k + 1 < p → (b && earlier p (k + 1)) ≡ false) → (b && any_of (earlier p) (numbers 1 (p - 1))) ≡ false
      go true so = any_none (earlier p) 1 (p - 1) (λ k l. ap (earlier p) (add_comm 1 k) ∙ so k (omega arith))
      go false so = refl

  -- none of the first i partitions meets an earlier one
  abbrev pub NoneMeets : ℕ → Type 0
  NoneMeets i = (k : ℕ) → k < i → load_ranges_clash f (k + 1) ≡ false

  -- nor does the next one
  pub none_more : (i : ℕ) → NoneMeets i → ((k : ℕ) → k < i → overlap (load (i + 1)) (load (k + 1)) ≡ false) → NoneMeets (i + 1)
  none_more i so clear = below_more _ i so (unmet (i + 1) (λ k l. clear k (omega arith)))

  pub none_broken : NoneMeets (partitions f) → verdict (rule19 ∷ []) f ≡ accepted
  unfolding verdict each partition_numbers Option-elim
  none_broken so = rw (not_found (load_ranges_clash f) 1 (partitions f) (λ k l. ap (load_ranges_clash f) (add_comm 1 k) ∙ so k l))

  pub first_broken_lem : (i : ℕ) → i < partitions f → NoneMeets i → load_ranges_clash f (i + 1) ≡ true
      → verdict (rule19 ∷ []) f ≡ refused 19 (i + 1)
  unfolding each partition_numbers
  first_broken_lem i l so e =
      verdict_broken rule19 [] f (1 + i)
      (found (load_ranges_clash f) 1 (partitions f) i (λ k h. ap (load_ranges_clash f) (add_comm 1 k) ∙ so k h) l
      (ap (load_ranges_clash f) (add_comm 1 i) ∙ e))
      ∙ ap (refused 19) (add_comm 1 i)

  -- ---- in order

  -- none of the first i partitions meets an earlier one, and none ends after `last`
  pub record Ordered (i : ℕ) (last : Range) : Type 0 where
    pub none_meets : NoneMeets i
    pub ended : (k : ℕ) → k < i → 0 < (load (k + 1)).size → end_of (load (k + 1)) ≤ end_of last

  pub ordered_none : (last : Range) → Ordered 0 last
  ordered_none last = record { none_meets = below_none _; ended = below_none _ }

  -- an empty range more
  pub ordered_empty : (i : ℕ) (last : Range) {r : Range} → Ordered i last → r ≡ load (i + 1) → r.size ≤ 0 → Ordered (i + 1) last
  unfolding end_of
  ordered_empty i last so is e =
      let none = rw is at e in
      record {
        none_meets = none_more i so.none_meets (λ k l. apart (load (i + 1)) (load (k + 1)) (omega (arith, none)));
        ended = below_more _ i so.ended (λ h. absurd (omega (arith, none)));
      }

  -- or one that starts at or after the end of `last`
  pub ordered_next : (i : ℕ) (last r : Range) → Ordered i last → r ≡ load (i + 1) → ends_before last r ≡ true → Ordered (i + 1) r
  unfolding end_of
  ordered_next i last r so is before =
      let l = rw is at (ends_before_lem last r before) in
      let clear : (k : ℕ) → k < i → overlap (load (i + 1)) (load (k + 1)) ≡ false =
      λ k h.
      elim (dec_lt 0 (load (k + 1)).size) [
        | yes e ↦ let old = so.ended k h e in apart (load (i + 1)) (load (k + 1)) (omega (arith, old, l))
        | no e ↦ apart (load (i + 1)) (load (k + 1)) (omega arith)
      ] in
      rw is
      record {
        none_meets = none_more i so.none_meets clear;
        ended = below_more _ i (λ k h e. let old = so.ended k h e in omega (arith, old, l)) (λ e. omega arith);
      }

-- ---- the rule, of a chain

module _ (chain : Chain) (i : ℕ) (so : NoneMeets (file_of_chain chain) i) where
  pub loads_apart : i ≡ chain.table.partitions → verdict (rule19 ∷ []) (file_of_chain chain) ≡ accepted
  loads_apart all = none_broken (file_of_chain chain) (rw (← counted chain.followed, ← all) so)

  pub loads_clash : (j p : ℕ) {a b : Range} → i < chain.table.partitions → j < i → a ≡ load (file_of_chain chain) (i + 1)
      → b ≡ load (file_of_chain chain) (j + 1) → overlap a b ≡ true → p ≡ i + 1
      → verdict (rule19 ∷ []) (file_of_chain chain) ≡ refused 19 p
  loads_clash j p l h ea eb e ep =
      let f = file_of_chain chain in
      let hit = rw (ea, eb) at e in
      rw ep (first_broken_lem f i (rw (← counted chain.followed) l) so (met f (i + 1) j (omega arith) hit))
