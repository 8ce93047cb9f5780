-- Laws of image headers: their counts added up, what rule 20 asks of them, and in which image's run a partition lies. Assumes nothing.
use Prim.Native.Nat.{ℕ, zero, suc, ◌+◌, ◌-◌, ◌≤◌, ◌<◌}
use Rattle.std.proofs.Common.{add-one, arith, ⊎_elim, ◌∙◌}
use Rattle.std.proofs.Math.Decide.{dec_lt}
use Rattle.std.specs.Prelude.{Bool, true, not, ◌↔◌, ◌≡◌, ltb, eqb}
use Rattle.std.proofs.Math.Bool.{false}
use mathlib.Core.List.{List, [], ◌∷◌, map, Mem}
use Rattle.std.proofs.Math.Option.{Option, none, some, Option-elim}
use Rattle.std.proofs.Math.Path.{refl, sym, ap}
use Rattle.std.proofs.Math.Dec.{leb}
use borrow.Author.Tests.{ltb-false, le-ltb, leb-true, leb-false, le-leb}
use Rattle.pdi_spec.specs.{Lists.numbers, Lists.sum_of, Lists.any_true, Lists.any_of, Lists.first_of, Lists.First, File.File, File.partitions, Images.images, Images.image_numbers, Images.image_header, Images.owned_up_to, Images.InRun, Images.owner_image, Verdict.once, Verdict.Kept, RuleList.rule20, ImageRules.image_checksum_bad, ImageRules.run_misplaced, ImageRules.image_headers_bad, ImageRules.OwnsRun, ImageRules.AllOwnRuns}
use Rattle.pdi_spec.proofs.Laws.{Lists.sum_more, Tests.either, Tests.equal_told, Tests.equal_tells, Tests.false_at, Tests.none_entry, Tests.entry_none, Tests.or_both, Tests.never_both, Tests.mem_numbers, Tests.numbers_mem, Kept.kept_once, Firsts.first_mem, Firsts.first_none, Firsts.first_some, Firsts.first_smallest}

module _ (f : File) where
  -- ---- counts added up

  pub owned_more : (i : ℕ) → owned_up_to f (i + 1) ≡ owned_up_to f i + (image_header f (i + 1)).partitions
  unfolding owned_up_to
  owned_more i = rw (add-one i) refl

  -- the last of them apart
  pub owned_last : (i : ℕ) → 1 ≤ i → owned_up_to f i ≡ owned_up_to f (i - 1) + (image_header f i).partitions
  owned_last i low =
      let same : i - 1 + 1 ≡ i = omega arith in
      sym (ap (owned_up_to f) same) ∙ owned_more (i - 1) ∙ ap (λ (k : ℕ). owned_up_to f (i - 1) + (image_header f k).partitions) same

  grows_by : (i d : ℕ) → owned_up_to f i ≤ owned_up_to f (i + d)
  unfolding owned_up_to
  grows_by i zero = omega (arith, ap (owned_up_to f) {x = i} {y = i + 0} (omega arith))
  grows_by i (suc d) =
      let next = ap (owned_up_to f) {x = i + suc d} {y = suc (i + d)} (omega arith) in
      omega (arith, grows_by i d, next)

  pub owned_grows : (i k : ℕ) → i ≤ k → owned_up_to f i ≤ owned_up_to f k
  owned_grows i k h = omega (arith, grows_by i (k - i), ap (owned_up_to f) {x = i + (k - i)} {y = k} (omega arith))

  abbrev count : ℕ → ℕ
  count i = (image_header f i).partitions

  -- together they are the sum of the images' counts
  pub owned_sum : (i : ℕ) → owned_up_to f i ≡ sum_of (map (λ (k : ℕ). (image_header f k).partitions) (numbers 1 i))
  unfolding owned_up_to numbers sum_of
  owned_sum zero = refl
  owned_sum (suc i) =
      let next = ap (λ (n : ℕ). sum_of (map count (numbers 1 n))) {x = suc i} {y = i + 1} (omega arith) in
      let last = ap (λ (k : ℕ). sum_of (map count (numbers 1 i)) + count k) {x = 1 + i} {y = suc i} (omega arith) in
      ap (λ (n : ℕ). n + count (suc i)) (owned_sum i) ∙ sym (next ∙ sum_more count 1 i ∙ last)

  -- ---- rule 20

  listed : (i : ℕ) → 1 ≤ i → i ≤ images f → Mem i (image_numbers f)
  unfolding image_numbers
  listed i low high = numbers_mem 1 (images f) low (omega arith)

  bounds : (i : ℕ) → Mem i (image_numbers f) → (1 ≤ i) × (i ≤ images f)
  unfolding image_numbers
  bounds i m = let b = mem_numbers 1 (images f) m in (b.0, omega (arith, b.1))

  abbrev wrong_sum : ℕ → Bool
  wrong_sum i = image_checksum_bad f.bytes (image_header f i)

  abbrev owns_none : ℕ → Bool
  owns_none i = ltb (image_header f i).partitions 1

  abbrev other_total : Bool
  other_total = not (eqb (owned_up_to f (images f)) (partitions f))

  -- its clauses
  abbrev clauses : List Bool
  clauses =
      any_of wrong_sum (image_numbers f) ∷ any_of owns_none (image_numbers f) ∷ other_total ∷ any_of (run_misplaced f) (image_numbers f)
      ∷ []

  none_broken : any_true clauses ≡ false → AllOwnRuns f
  unfolding image_checksum_bad run_misplaced
  none_broken e =
      record {
        each_run = λ i low high. record {
          sum_right = equal_told _ _ (none_entry wrong_sum (image_numbers f) (false_at clauses e 0) (listed i low high));
          owns_some = ltb-false _ 1 (none_entry owns_none (image_numbers f) (false_at clauses e 1) (listed i low high));
          starts = equal_told _ _ (none_entry (run_misplaced f) (image_numbers f) (false_at clauses e 3) (listed i low high));
        };
        add_up = equal_told _ _ (false_at clauses e 2);
      }

  all_kept : AllOwnRuns f → any_true clauses ≡ false
  unfolding image_checksum_bad run_misplaced any_true
  all_kept r =
      let run : (i : ℕ) → Mem i (image_numbers f) → OwnsRun f i = λ i m. let b = bounds i m in r.each_run i b.0 b.1 in
      or_both _ _ (entry_none wrong_sum (image_numbers f) (λ i m. equal_tells _ _ (run i m).sum_right))
      (or_both _ _ (entry_none owns_none (image_numbers f) (λ i m. le-ltb _ 1 (run i m).owns_some))
      (or_both _ _ (equal_tells _ _ r.add_up)
      (or_both _ false (entry_none (run_misplaced f) (image_numbers f) (λ i m. equal_tells _ _ (run i m).starts)) refl)))

  -- it is kept exactly where the images own runs of the chain
  pub runs_kept : (image_headers_bad f ≡ false) ↔ AllOwnRuns f
  unfolding image_headers_bad
  runs_kept = (none_broken, all_kept)

  -- and broken exactly where they don't
  pub runs_broken : (image_headers_bad f ≡ true) ↔ (AllOwnRuns f → ⊥)
  runs_broken = (
    λ e r. never_both e (runs_kept.1 r),
    λ n. ⊎_elim (λ e. e) (λ e. absurd (n (runs_kept.0 e))) (either (image_headers_bad f)),
  )

  pub runs_stated : Kept rule20 f ↔ AllOwnRuns f
  unfolding Kept once
  runs_stated = (λ k. runs_kept.0 (kept_once 20 image_headers_bad f k), λ r p m. runs_kept.1 r)

  -- ---- the run that a partition lies in

  -- no two images' runs share a partition
  pub run_unique : (i j p : ℕ) → InRun f i p → InRun f j p → i ≡ j
  run_unique i j p a b =
      elim (dec_lt i j) [
        | yes l ↦
            absurd (omega (arith, owned_grows i (j - 1) (omega arith), a.within, b.after))
        | no l ↦
            elim (dec_lt j i) [
              | yes m ↦ absurd (omega (arith, owned_grows j (i - 1) (omega arith), b.within, a.after))
              | no m ↦ omega arith
            ]
      ]

  -- a later partition lies in no earlier run
  pub runs_ascend : (i j p q : ℕ) → InRun f i p → InRun f j q → p ≤ q → i ≤ j
  runs_ascend i j p q a b h =
      elim (dec_lt j i) [
        | yes m ↦ absurd (omega (arith, owned_grows j (i - 1) (omega arith), b.within, a.after))
        | no m ↦ omega arith
      ]

  module _ (r : AllOwnRuns f) where
    -- a partition of a run is one of the chain
    pub run_in_chain : (i p : ℕ) → InRun f i p → (1 ≤ p) × (p ≤ partitions f)
    run_in_chain i p a =
        (omega (arith, a.after), omega (arith, a.within, owned_grows i (images f) a.listed, r.add_up))

    some_image : (p : ℕ) → 1 ≤ p → p ≤ partitions f → 1 ≤ images f
    unfolding owned_up_to
    some_image p low high =
        elim (dec_lt 0 (images f)) [
          | yes l ↦ l
          | no l ↦ let none = ap (owned_up_to f) {x = images f} {y = 0} (omega arith) in absurd (omega (arith, r.add_up, none))
        ]

    -- every partition of the chain lies in its owner's run
    pub owner_in_run : (p : ℕ) → 1 ≤ p → p ≤ partitions f → InRun f (owner_image f p) p
    unfolding owner_image owned_up_to image_numbers Option-elim
    owner_in_run p low high = go (first_of (λ (i : ℕ). leb p (owned_up_to f i)) (image_numbers f)) refl
      where
        -- the images before one that is the first to reach p don't reach it
        before : (i : ℕ) → First (λ (k : ℕ). leb p (owned_up_to f k)) (image_numbers f) i → 1 ≤ i → owned_up_to f (i - 1) < p
        before i t l =
            elim (dec_lt 1 i) [
              | yes m ↦ leb-false p (owned_up_to f (i - 1)) (first_smallest _ 1 (images f) i t (i - 1) (omega arith) (omega arith))
              | no m ↦ let none = ap (owned_up_to f) {x = i - 1} {y = 0} (omega arith) in omega (arith, none)
            ]

        go : (o : Option ℕ) → first_of (λ (i : ℕ). leb p (owned_up_to f i)) (image_numbers f) ≡ o → InRun f (Option-elim o 0 (λ i. i)) p
        go none e =
            let last = first_none _ _ e (images f) (listed (images f) (some_image p low high) (omega arith)) in
            absurd (never_both (le-leb p (owned_up_to f (images f)) (omega (arith, r.add_up))) last)
        go (some i) e =
            let t = first_some _ (image_numbers f) i e in
            let b = bounds i (first_mem _ (image_numbers f) i t) in
            record { counted = b.0; listed = b.1; after = before i t b.0; within = leb-true p (owned_up_to f i) t.passes }

    -- so p has owner i exactly where it lies in image i's run
    pub owner_is : (i p : ℕ) → InRun f i p → owner_image f p ≡ i
    owner_is i p a =
        let b = run_in_chain i p a in
        run_unique (owner_image f p) i p (owner_in_run p b.0 b.1) a
