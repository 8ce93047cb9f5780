-- Laws of owner, of any question by its own rules: where it answers 0, and of an accepted image which partitions each image owns.
-- Assumes nothing.
use Rattle.std.specs.Prelude.{ℕ, ◌+◌, ◌-◌, ◌*◌, ◌≤◌, ◌<◌, Bool, List, ◌↔◌, ◌⊎◌, ◌≡◌, eqb, length}
use Rattle.std.proofs.Common.{arith, ◌∙◌}
use Rattle.std.proofs.Math.Decide.{dec_le}
use Rattle.std.proofs.Math.Logic.{inl, inr, ⊎_elim}
use Rattle.std.proofs.Math.Path.{sym, subst}
use borrow.Author.Tests.{eq-eqb, ne_eqb}
use Rattle.pdi_spec.specs.{Limits.buffer_numbers, Lists.count_of, Lists.First, File.File, File.partitions, File.partition_numbers, File.header, Headers.header_from, Images.images, Images.image_header, Images.owned_up_to, Images.run_start, Images.InRun, Images.owner_image, ImageRules.image_headers_bad, ImageRules.AllOwnRuns, Ranges.Range, Ranges.end_of, Ranges.within, Verdict.Rule, Verdict.accepted, Verdict.refused, Verdict.verdict, RuleList.without_buffer, RuleList.with_rows, Answers.asked, Answers.owner_under, Answers.owner_by, Answers.read_by, Supported.Supported}
use Rattle.pdi_spec.proofs.Laws.{Tests.either, Tests.never_both, Tests.is_not_true, Tests.within_bounds, Tests.bounds_within, Tests.numbers_mem, Counts.range_count, Counts.count_same, Firsts.first_some, Firsts.smallest_first, Kept.kept_once, Verdict.accepted_kept, Refusals.answer_refused, Refusals.with_room, Images.owned_last, Images.owned_grows, Images.runs_kept, Images.run_in_chain, Images.runs_ascend, Images.owner_in_run, Images.owner_is, Partitions.refused_gives, Partitions.other_gives, Partitions.accepted_gives, Answers.listed, Answers.read_accepts}

pub owner_refused : (rs : List Rule) (f : File) (k q : ℕ) → verdict rs f ≡ refused k q → (p : ℕ) → owner_under rs f p ≡ 0
unfolding owner_under
owner_refused rs f k q e p = refused_gives rs f p (owner_image f p) 0 e

pub owner_none : (rs : List Rule) (f : File) (p : ℕ) → (p < 1) ⊎ (partitions f < p) → owner_under rs f p ≡ 0
unfolding owner_under
owner_none rs f p = other_gives rs f p (owner_image f p) 0

pub owner_accepted : (rs : List Rule) (f : File) → verdict rs f ≡ accepted → (p : ℕ) → 1 ≤ p → p ≤ partitions f
    → owner_under rs f p ≡ owner_image f p
unfolding owner_under
owner_accepted rs f e p = accepted_gives rs f p (owner_image f p) 0 e

-- p is 1 to N, or it isn't
in_chain : (f : File) (p : ℕ) → ((1 ≤ p) × (p ≤ partitions f)) ⊎ ((p < 1) ⊎ (partitions f < p))
in_chain f p =
    elim (dec_le 1 p) [
      | no l ↦ inr (inl (omega arith))
      | yes l ↦ elim (dec_le p (partitions f)) [ yes h ↦ inl (l, h) | no h ↦ inr (inr (omega arith)) ]
    ]

module _ {own : List Rule} (s : Supported own) (image : List ℕ) (place : ℕ) where
  abbrev f : File
  f = asked image place

  -- ---- of an accepted image

  module _ (v : verdict (without_buffer own) (asked image place) ≡ accepted) where
    pub runs : AllOwnRuns (asked image place)
    runs = (runs_kept f).0 (kept_once 20 image_headers_bad f (accepted_kept (without_buffer own) f v (listed s image place s.images)))

    pub in_run : (p : ℕ) → 1 ≤ p → p ≤ partitions (asked image place) → InRun (asked image place) (owner_by own image place p) p
    unfolding owner_by
    in_run p low high =
        subst (λ (i : ℕ). InRun f i p) (sym (owner_accepted (without_buffer own) f v p low high)) (owner_in_run f runs p low high)

    pub owner_exactly : (i p : ℕ) → 1 ≤ i → (owner_by own image place p ≡ i) ↔ InRun (asked image place) i p
    unfolding owner_by
    owner_exactly i p l = (
      λ e.
          ⊎_elim (λ b. subst (λ (k : ℕ). InRun f k p) e (in_run p b.0 b.1))
          (λ h. absurd (omega (arith, e, owner_none (without_buffer own) f p h))) (in_chain f p),
      λ a. let b = run_in_chain f runs i p a in owner_accepted (without_buffer own) f v p b.0 b.1 ∙ owner_is f runs i p a,
    )

    pub owners_ascend : (p q : ℕ) → 1 ≤ p → p ≤ q → q ≤ partitions (asked image place)
        → owner_by own image place p ≤ owner_by own image place q
    owners_ascend p q low h high =
        runs_ascend f _ _ p q (in_run p low (omega arith)) (in_run q (omega arith) high) h

    -- ---- of one of its images

    module _ (i : ℕ) (low : 1 ≤ i) (high : i ≤ images (asked image place)) where
      abbrev owns : ℕ → Bool
      owns p = eqb (owner_by own image place p) i

      -- its run
      abbrev run : Range
      run = record { start = run_start f i; size = (image_header f i).partitions }

      abbrev ends : owned_up_to f i ≡ owned_up_to f (i - 1) + (image_header f i).partitions
      ends = owned_last f i low

      ends_in_chain : owned_up_to f i ≤ partitions f
      ends_in_chain = omega (arith, owned_grows f i (images f) high, runs.add_up)

      -- it owns the partitions of its run
      owned_within : (p : ℕ) → owns p ≡ within run p
      unfolding run_start
      owned_within p =
          ⊎_elim
          (λ e.
          let b = within_bounds run p e in
          let a : InRun f i p = record { counted = low; listed = high; after = omega (arith, b.0); within = omega (arith, b.1, ends) } in
          eq-eqb _ i ((owner_exactly i p low).1 a) ∙ sym e)
          (λ e.
          ne_eqb _ i
          (λ o.
          let a = (owner_exactly i p low).0 o in
          never_both (bounds_within run p (omega (arith, a.after)) (omega (arith, a.within, ends))) e)
          ∙ sym e)
          (either (within run p))

      -- as many as its count says
      pub owns_count : count_of (λ (p : ℕ). eqb (owner_by own image place p) i) (partition_numbers (asked image place))
          ≡ (image_header (asked image place) i).partitions
      unfolding partition_numbers run_start end_of
      owns_count =
          count_same owns (within run) 1 (partitions f) (λ p l h. owned_within p)
          ∙ range_count run 1 (partitions f) (omega arith) (omega (arith, ends, ends_in_chain))

      -- the first of them is the one whose header its word 0 names
      pub owns_first : (p : ℕ)
          × First (λ (q : ℕ). eqb (owner_by own image place q) i) (partition_numbers (asked image place)) p
          × ((header (asked image place) p).at ≡ 4 * (image_header (asked image place) i).first_header_offset)
      unfolding partition_numbers run_start header header_from
      owns_first =
          let own-run = runs.each_run i low high in
          let some = own-run.owns_some in
          let first = run_start f i in
          let here = bounds_within run first (omega arith) (omega (arith, some)) in
          let there = numbers_mem {x = first} 1 (partitions f) (omega arith) (omega (arith, some, ends, ends_in_chain)) in
          let e = smallest_first owns 1 (partitions f) first there (owned_within first ∙ here)
          (λ q l h. owned_within q ∙ is_not_true (within run q) (λ w. absurd (omega (arith, (within_bounds run q w).0)))) in
          (first, first_some owns _ first e, sym own-run.starts)

  -- ---- where it answers 0

  module _ (rows : List ℕ) (serves : buffer_numbers ≤ length rows) (p : ℕ) where
    -- exactly where read refuses, or p isn't 1 to N
    pub owner_zero : (owner_by own image place p ≡ 0)
        ↔ ((read_by own image place rows ≡ 0 → ⊥) ⊎ ((p < 1) ⊎ (partitions (asked image place) < p)))
    unfolding owner_by read_by with_rows
    owner_zero = (
      λ e. ⊎_elim (λ b. inl (λ z. absurd (never e b z))) inr (in_chain f p),
      ⊎_elim refused_none (owner_none (without_buffer own) f p),
    )
      where
        never : owner_under (without_buffer own) f p ≡ 0 → (1 ≤ p) × (p ≤ partitions f) → read_by own image place rows ≡ 0 → ⊥
        never e b z =
            let v = ((read_accepts s image place rows).0 z).1 in
            absurd (omega (arith, (in_run v p b.0 b.1).counted, e))

        refused_none : (read_by own image place rows ≡ 0 → ⊥) → owner_under (without_buffer own) f p ≡ 0
        refused_none n =
            let t = answer_refused (with_rows (length rows) own) f n in
            owner_refused (without_buffer own) f t.0 t.1 (sym (with_room buffer_numbers (length rows) own f serves) ∙ t.2) p
