-- Rule 20 along a file's images: what one image's run tells, what the loop keeps after i images, and what it answers. Assumes nothing.
use Rattle.std.proofs.Common.{ℕ, [], ◌∷◌, get_or, Option, ◌+◌, ◌-◌, ◌*◌, ◌≤◌, ◌<◌, arith, Bool, true, false, not, ◌||◌, List, ◌≡◌, refl, sym, ◌∙◌, ap, subst, below_more, ltb-false, le-ltb, le-leb, eqb, ltb, None, Some}
use Rattle.std.proofs.Math.Option.{Option-elim}
use Rattle.std.proofs.lemmas.Bool.{lt-leb}
use Rattle.pdi_spec.specs.File.{File, partitions, header_at}
use Rattle.pdi_spec.specs.Headers.{Table, image_header_size, ImageHeader}
use Rattle.pdi_spec.specs.Images.{images, image_header_at, image_header, owned_up_to, run_start}
use Rattle.pdi_spec.specs.ImageRules.{image_checksum_bad, run_misplaced, image_headers_bad, OwnsRun, AllOwnRuns}
use Rattle.pdi_spec.specs.Lists.{any_true, first_of}
use Rattle.pdi_spec.specs.Words.{checksum}
use Rattle.pdi_spec.specs.RuleList.{rule20}
use Rattle.pdi_spec.specs.Verdict.{accepted, refused, once, verdict}
use Rattle.pdi_spec.proofs.Laws.Images.{owned_more, owned_last, owned_grows, runs_kept, runs_broken}
use Rattle.pdi_spec.proofs.Laws.Tests.{never_both, or_both, false_at, equal_told, equal_tells}
use Rattle.pdi_spec.proofs.Laws.Alternatives.{joined_any}
use Rattle.headers.specs.declared.table.TableHeader.{TableHeader}
use Rattle.headers.specs.Headers.{image_header_of}
use Rattle.headers.specs.declared.image.ImageHeader as Declared
use Rattle.chain_rules.specs.Chain.{IsTable, IsChain, file_of}
use Rattle.chain_rules.proofs.Counts.{count_is, counted}
use Rattle.image_rules.specs.Runs.{run_broken, run_of, run_at}

-- ---- where the headers lie

module _ (bytes : List ℕ) {t : TableHeader} (own : IsTable bytes t) where
  pub place_is : (i : ℕ) → 4 * t.image_header_offset + image_header_size * i ≡ image_header_at (file_of bytes t) (i + 1)
  unfolding image_header_at
  place_is i =
      let offset = ap (λ (u : Table). u.image_header_offset) own in
      omega (arith, offset)

  pub images_are : t.images ≡ images (file_of bytes t)
  unfolding images
  images_are = ap (λ (u : Table). u.images) own

-- ---- one image's run

-- the code's tests of an image header, where its run's first header lies at this offset
abbrev pub header_tests : List ℕ → ImageHeader → ℕ → Bool
header_tests bytes h offset =
    (not (eqb h.checksum (checksum bytes h.at 15)) || ltb h.partitions 1) || not (eqb (4 * h.first_header_offset) offset)

module _ (f : File) (i : ℕ) {n : ℕ} (all : n ≡ partitions f) {owned : ℕ} (before : owned ≡ owned_up_to f i) where
  here : owned_up_to f (i + 1 - 1) ≡ owned
  here = ap (owned_up_to f) {x = i + 1 - 1} {y = i} (omega arith) ∙ sym before

  -- the images before own all already
  pub none_left : n ≤ owned → None ≡ run_at f (i + 1)
  unfolding run_at run_of run_broken any_true
  none_left l = rw (here, ← all, le-leb n owned l) refl

  pub run_told : owned < n → {h : ImageHeader} → h ≡ image_header f (i + 1) → {offset : ℕ} → offset ≡ header_at f (owned + 1) → {b : Bool}
      → header_tests f.bytes h offset ≡ b
      → run_of b (owned + h.partitions) ≡ run_at f (i + 1)
  unfolding run_at run_broken image_checksum_bad run_misplaced run_start
  run_told left {h} read {offset} lies x =
      let count = ap {B = ℕ} (λ (u : ImageHeader). u.partitions) read in
      let end : owned + h.partitions ≡ owned_up_to f (i + 1) = omega (arith, before, owned_more f i, count) in
      rw (here, ← all, lt-leb n owned left, ← read, ← lies, ← end, ← x)
      (ap (λ (b : Bool). run_of b (owned + h.partitions)) (joined_any _ _))

-- the image header that was read, and the offset of its run's first header in the chain
module _ (bytes : List ℕ) (t : TableHeader) (i : ℕ) {offsets : List ℕ} (chain : IsChain bytes t offsets) {owned : ℕ}
    (before : owned ≡ owned_up_to (file_of bytes t) i) where
  module _ (left : owned < t.partitions) {h : Declared.ImageHeader}
      (read : image_header_of h ≡ image_header (file_of bytes t) (i + 1)) where
    told : {b : Bool} → header_tests bytes (image_header_of h) (get_or offsets owned 0) ≡ b
        → run_of b (owned + h.partitions) ≡ run_at (file_of bytes t) (i + 1)
    told x = run_told (file_of bytes t) i (counted chain) before left read (chain.along owned left) x

    pub run_none : header_tests bytes (image_header_of h) (get_or offsets owned 0) ≡ true → None ≡ run_at (file_of bytes t) (i + 1)
    unfolding run_of
    run_none x = told x

    pub run_some : header_tests bytes (image_header_of h) (get_or offsets owned 0) ≡ false
        → run_at (file_of bytes t) (i + 1) ≡ Some (owned + h.partitions)
    unfolding run_of
    run_some x = sym (told x)

-- ---- what a run tells

broken_only : (b : Bool) (end : ℕ) → run_of b end ≡ None → b ≡ true
unfolding run_of
broken_only true end e = refl
broken_only false end e = cc

end_only : (b : Bool) {here end : ℕ} → run_of b here ≡ Some end → (b ≡ false) × (end ≡ here)
unfolding run_of
end_only true e = absurd (cc)
end_only false e = (refl, cc)

module _ (f : File) (i : ℕ) where
  pub run_broken_lem : run_at f i ≡ None → run_broken f i ≡ true
  unfolding run_at
  run_broken_lem e = broken_only _ _ e

  pub run_ends : {end : ℕ} → run_at f i ≡ Some end → (run_broken f i ≡ false) × (end ≡ owned_up_to f i)
  unfolding run_at
  run_ends e = end_only _ e

  -- an unbroken run is one that rule 20 asks for
  pub run_owned : run_broken f i ≡ false → OwnsRun f i
  unfolding run_broken image_checksum_bad run_misplaced
  run_owned e =
      record {
        sum_right = equal_told _ _ (false_at _ e 1);
        owns_some = ltb-false _ 1 (false_at _ e 2);
        starts = equal_told _ _ (false_at _ e 3);
      }

  -- and where the images own runs, none is broken
  pub own_unbroken : AllOwnRuns f → 1 ≤ i → i ≤ images f → run_broken f i ≡ false
  unfolding run_broken image_checksum_bad run_misplaced any_true
  own_unbroken r low high =
      let own = r.each_run i low high in
      or_both _ _ (lt-leb (partitions f) (owned_up_to f (i - 1)) before)
      (or_both _ _ (equal_tells _ _ own.sum_right)
      (or_both _ _ (le-ltb _ 1 own.owns_some)
      (or_both _ false (equal_tells _ _ own.starts) refl)))
    where
      -- the images before it own fewer than all
      before : owned_up_to f (i - 1) < partitions f
      before =
          omega (arith, owned_last f i low, (r.each_run i low high).owns_some, owned_grows f i (images f) high, r.add_up)

-- ---- the loop

-- after i images: each owns its run, and together they own that many partitions
pub record RunsSoFar (f : File) (owned i : ℕ) : Type 0 where
  pub each_run : (k : ℕ) → k < i → OwnsRun f (k + 1)
  pub owned_is : owned ≡ owned_up_to f i

pub none_yet : (f : File) → RunsSoFar f 0 0
unfolding owned_up_to
none_yet f = record { each_run = λ k h. absurd (omega arith); owned_is = refl }

module _ (f : File) where
  bad : image_headers_bad f ≡ true → refused 20 0 ≡ verdict (rule20 ∷ []) f
  unfolding verdict once first_of Option-elim
  bad e = rw e refl

  good : image_headers_bad f ≡ false → accepted ≡ verdict (rule20 ∷ []) f
  unfolding verdict once first_of Option-elim
  good e = rw e refl

  module _ {owned i : ℕ} (so_far : RunsSoFar f owned i) where
    pub onward : {run : Option ℕ} → run ≡ run_at f (i + 1) → {end : ℕ} → run ≡ Some end → RunsSoFar f end (i + 1)
    onward told e =
        let t = run_ends f (i + 1) (sym told ∙ e) in
        record { each_run = below_more _ i so_far.each_run (run_owned f (i + 1) t.0); owned_is = t.1 }

    pub broken : i < images f → run_at f (i + 1) ≡ None → refused 20 0 ≡ verdict (rule20 ∷ []) f
    broken l e =
        bad ((runs_broken f).1 (λ r. never_both (run_broken_lem f (i + 1) e) (own_unbroken f (i + 1) r (omega arith) (omega arith))))

    module _ (all : i ≡ images f) where
      total : owned ≡ owned_up_to f (images f)
      total = so_far.owned_is ∙ ap (owned_up_to f) all

      pub not_whole : (owned ≡ partitions f → ⊥) → refused 20 0 ≡ verdict (rule20 ∷ []) f
      not_whole n = bad ((runs_broken f).1 (λ r. n (total ∙ r.add_up)))

      pub whole : owned ≡ partitions f → accepted ≡ verdict (rule20 ∷ []) f
      whole e =
          good
          ((runs_kept f).1
          (record {
            each_run = λ k low high.
                let same : k - 1 + 1 ≡ k = omega arith in
                subst (OwnsRun f) same (so_far.each_run (k - 1) (omega arith));
            add_up = sym total ∙ e;
          }))

-- what the loop's start and the answers of `check_images` need
pub ruleset along = (images_are, count_is, none_yet, broken, not_whole, whole)
