-- What the verdict is, from the lowest broken rule and from the tests' answers; and that a table which rule 3 has passed lies inside.
-- Assumes nothing.
use Prim.Native.Nat.{ℕ, ◌+◌, ◌%◌, ◌≤◌}
use native.Mathlib.Omega.{arith}
use borrow.Author.Tests.{ltb-false}
use mathlib.Core.Bool.{Bool, true, false, not, ◌&&◌}
use mathlib.Core.List.{List}
use mathlib.Core.Option.{Option, none, some, Option-elim}
use mathlib.Core.Path.{◌≡◌, refl, sym, ◌∙◌, ap}
use lib.Dec.{eqb}
use lib.ListN.{length}
use Rattle.pdi_spec.specs.Answers.{asked}
use Rattle.pdi_spec.specs.File.{File, table, is_full}
use Rattle.pdi_spec.specs.Headers.{Table, header_size, table_from, boot_from}
use Rattle.pdi_spec.specs.Ranges.{past, end_of}
use Rattle.pdi_spec.specs.RuleList.{table_rules}
use Rattle.pdi_spec.specs.Rules.{table_outside, table_checksum_wrong, kind_unknown, table_fields_bad, table_key_unknown}
use Rattle.pdi_spec.specs.Rules.{boot_header_bad, boot_header_wrong, image_headers_outside}
use Rattle.pdi_spec.specs.Verdict.{accepted, refused, once, first_broken, verdict}
use Rattle.pdi_spec.specs.Words.{checksum}
use Rattle.pdi_spec.proofs.Laws.Broken.{at_zero, once_verdict}
use Rattle.pdi_spec.proofs.Laws.Tests.{or_right}
use Rattle.headers.specs.Headers.{table_of}
use Rattle.headers.specs.declared.table.TableHeader.{TableHeader}

-- the verdict where a number was found, and where none was
found_told : (f : File) {found : Option ℕ} → first_broken table_rules f 0 ≡ found → at_zero found ≡ verdict table_rules f
unfolding table_rules once
found_told f e = sym (once_verdict table_rules f (refl, (refl, (refl, (refl, (refl, (refl, (refl, tt))))))) ∙ ap at_zero e)

refused_told : (f : File) {k : ℕ} → first_broken table_rules f 0 ≡ some k → refused k 0 ≡ verdict table_rules f
unfolding Option-elim
refused_told f e = found_told f e

accepted_told : (f : File) → first_broken table_rules f 0 ≡ none → accepted ≡ verdict table_rules f
unfolding Option-elim
accepted_told f e = found_told f e

pub table_inside : (image : List ℕ) (place : ℕ) → table_outside (asked image place) ≡ false → place + header_size ≤ length image
unfolding table_outside past end_of
table_inside image place e = ltb-false (length image) (place + header_size) (or_right (not (eqb (place % 4) 0)) _ e)

-- ---- the verdict where a rule is the first that is broken, and past them all; `t` is the table as the code reads it

module _ (image : List ℕ) (place : ℕ) where
  pub told_3 : table_outside (asked image place) ≡ true → refused 3 0 ≡ verdict table_rules (asked image place)
  unfolding table_rules once first_broken
  told_3 e = refused_told _ (rw e refl)

  module _ (t : TableHeader) (own : table_of t ≡ table_from image place) (k3 : table_outside (asked image place) ≡ false) where
    pub read_inside : t.place + header_size ≤ length image
    unfolding table_from
    read_inside = omega (arith, ap (λ (t : Table). t.place) own, table_inside _ _ k3)

    checksum_is : {b : Bool} → not (eqb t.checksum (checksum image t.place 31)) ≡ b → table_checksum_wrong (asked image place) ≡ b
    unfolding table_checksum_wrong table table_from
    checksum_is told = sym (ap (λ (t : Table). not (eqb t.checksum (checksum image t.place 31))) own) ∙ told

    boot_is : {b : Bool} → (eqb t.kind 1 && boot_header_bad image (table_of t) (boot_from image)) ≡ b
        → boot_header_wrong (asked image place) ≡ b
    unfolding boot_header_wrong table is_full
    boot_is told = sym (ap (λ (t : Table). eqb t.kind 1 && boot_header_bad image t (boot_from image)) own) ∙ told

    pub told_4 : not (eqb t.checksum (checksum image t.place 31)) ≡ true → refused 4 0 ≡ verdict table_rules (asked image place)
    unfolding table_rules once first_broken
    told_4 e = refused_told _ (rw (k3, checksum_is e) refl)

    module _ (k4 : not (eqb t.checksum (checksum image t.place 31)) ≡ false) where
      pub told_5 : kind_unknown (table_of t) ≡ true → refused 5 0 ≡ verdict table_rules (asked image place)
      unfolding table_rules once first_broken table
      told_5 e = refused_told _ (rw (k3, checksum_is k4, ← own, e) refl)

      module _ (k5 : kind_unknown (table_of t) ≡ false) where
        pub told_6 : table_fields_bad (table_of t) ≡ true → refused 6 0 ≡ verdict table_rules (asked image place)
        unfolding table_rules once first_broken table
        told_6 e = refused_told _ (rw (k3, checksum_is k4, ← own, k5, e) refl)

        module _ (k6 : table_fields_bad (table_of t) ≡ false) where
          pub told_7 : table_key_unknown (table_of t) ≡ true → refused 7 0 ≡ verdict table_rules (asked image place)
          unfolding table_rules once first_broken table
          told_7 e = refused_told _ (rw (k3, checksum_is k4, ← own, k5, k6, e) refl)

          module _ (k7 : table_key_unknown (table_of t) ≡ false) where
            pub told_8 : (eqb t.kind 1 && boot_header_bad image (table_of t) (boot_from image)) ≡ true
                → refused 8 0 ≡ verdict table_rules (asked image place)
            unfolding table_rules once first_broken table
            told_8 e = refused_told _ (rw (k3, checksum_is k4, ← own, k5, k6, k7, boot_is e) refl)

            module _ (k8 : (eqb t.kind 1 && boot_header_bad image (table_of t) (boot_from image)) ≡ false) where
              pub told_9 : image_headers_outside image (table_of t) ≡ true → refused 9 0 ≡ verdict table_rules (asked image place)
              unfolding table_rules once first_broken table
              told_9 e = refused_told _ (rw (k3, checksum_is k4, ← own, k5, k6, k7, boot_is k8, e) refl)

              pub told : image_headers_outside image (table_of t) ≡ false → accepted ≡ verdict table_rules (asked image place)
              unfolding table_rules once first_broken table
              told e = accepted_told _ (rw (k3, checksum_is k4, ← own, k5, k6, k7, boot_is k8, e) refl)

-- what the ways out of the stage need
pub ruleset told_by_rule = (table_inside, told_3, told_4, told_5, told_6, told_7, told_8, told_9, told)
