-- What is told of a header, from the tests' answers: `h` is header p as the code reads it. Assumes nothing.
use Prim.Native.Nat.{ℕ}
use Rattle.std.specs.Prelude.{Ok, Err}
use mathlib.Core.Bool.{true, false}
use mathlib.Core.Option.{some}
use mathlib.Core.Path.{◌≡◌, refl, sym}
use Rattle.pdi_spec.specs.File.{File, header}
use Rattle.pdi_spec.specs.RuleList.{header_rules}
use Rattle.pdi_spec.specs.Rules.{header_checksum_bad, attributes_bad, key_unknown, lengths_bad, span_outside, load_address_bad}
use Rattle.pdi_spec.specs.Verdict.{each, first_broken}
use Rattle.headers.specs.Headers.{header_of}
use Rattle.headers.specs.declared.partition.PartitionHeader.{PartitionHeader}
use Rattle.refusals.specs.Refusals.{number_of}
use Rattle.refusals.specs.declared.Rule.{Rule}
use Rattle.header_rules.specs.Headers.{HeaderTold}

-- a refusal has no header
refused : (f : File) (p : ℕ) (rule : Rule) → first_broken header_rules f p ≡ some (number_of rule) → HeaderTold f p (Err rule)
refused f p rule e = record { number = sym e; own = tt }

-- ---- where a rule is the first that is broken, and past them all

module _ (f : File) (p : ℕ) (h : PartitionHeader) (own : header_of h ≡ header f p) where
  pub told_11 : header_checksum_bad f.bytes (header_of h) ≡ true → HeaderTold f p (Err Rule.HeaderChecksumBad)
  unfolding header_rules each first_broken
  told_11 e = refused _ _ _ (rw (← own, e) refl)

  module _ (k11 : header_checksum_bad f.bytes (header_of h) ≡ false) where
    pub told_12 : attributes_bad (header_of h) ≡ true → HeaderTold f p (Err Rule.AttributesBad)
    unfolding header_rules each first_broken
    told_12 e = refused _ _ _ (rw (← own, k11, e) refl)

    module _ (k12 : attributes_bad (header_of h) ≡ false) where
      pub told_13 : key_unknown (header_of h) ≡ true → HeaderTold f p (Err Rule.KeyUnknown)
      unfolding header_rules each first_broken
      told_13 e = refused _ _ _ (rw (← own, k11, k12, e) refl)

      module _ (k13 : key_unknown (header_of h) ≡ false) where
        pub told_14 : lengths_bad (header_of h) ≡ true → HeaderTold f p (Err Rule.LengthsBad)
        unfolding header_rules each first_broken
        told_14 e = refused _ _ _ (rw (← own, k11, k12, k13, e) refl)

        module _ (k14 : lengths_bad (header_of h) ≡ false) where
          pub told_15 : span_outside f.bytes (header_of h) ≡ true → HeaderTold f p (Err Rule.SpanOutside)
          unfolding header_rules each first_broken
          told_15 e = refused _ _ _ (rw (← own, k11, k12, k13, k14, e) refl)

          module _ (k15 : span_outside f.bytes (header_of h) ≡ false) where
            pub told_16 : load_address_bad (header_of h) ≡ true → HeaderTold f p (Err Rule.LoadAddressBad)
            unfolding header_rules each first_broken
            told_16 e = refused _ _ _ (rw (← own, k11, k12, k13, k14, k15, e) refl)

            pub told : load_address_bad (header_of h) ≡ false → HeaderTold f p (Ok h)
            unfolding header_rules each first_broken
            told e = record { number = rw (← own, k11, k12, k13, k14, k15, e) refl; own = own }
