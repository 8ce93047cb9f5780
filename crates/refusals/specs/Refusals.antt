-- The code's rules and refusals as document 01's numbers and outcomes. Assumes nothing.
use Rattle.std.specs.Prelude.{ℕ, Result, Ok, Err}
use Rattle.pdi_spec.specs.Verdict.{Outcome, accepted, refused}
use Rattle.refusals.specs.declared.Refusal.{Refusal}
use Rattle.refusals.specs.declared.Rule.{Rule}
use Rattle.refusals.specs.declared.Rule.TheVariants.{ImageTooLong, BufferTooShort, TableOutside, TableChecksumWrong, KindUnknown, TableFieldsBad, TableKeyUnknown, BootHeaderWrong, ImageHeadersOutside, ChainBroken, HeaderChecksumBad, AttributesBad, KeyUnknown, LengthsBad, SpanOutside, LoadAddressBad, HashBlockWrong, StoredRangesClash, LoadRangesClash, ImageHeadersBad}

-- document 01, "Rules by number", and document 02's
abbrev pub number_of : Rule → ℕ
number_of ImageTooLong = 1
number_of BufferTooShort = 2
number_of TableOutside = 3
number_of TableChecksumWrong = 4
number_of KindUnknown = 5
number_of TableFieldsBad = 6
number_of TableKeyUnknown = 7
number_of BootHeaderWrong = 8
number_of ImageHeadersOutside = 9
number_of ChainBroken = 10
number_of HeaderChecksumBad = 11
number_of AttributesBad = 12
number_of KeyUnknown = 13
number_of LengthsBad = 14
number_of SpanOutside = 15
number_of LoadAddressBad = 16
number_of HashBlockWrong = 17
number_of StoredRangesClash = 18
number_of LoadRangesClash = 19
number_of ImageHeadersBad = 20

-- of the whole image: p is 0
abbrev pub of_image : Rule → Refusal
of_image rule = record { rule = rule; partition = 0 }

abbrev pub outcome_of_refusal : Refusal → Outcome
outcome_of_refusal r = refused (number_of r.rule) r.partition

-- what a stage says of a file: a stage whose refusal has a p, and one whose rules are of the whole image
abbrev pub outcome_of : {T : Type 0} → Result T Refusal → Outcome
outcome_of (Ok x) = accepted
outcome_of (Err r) = outcome_of_refusal r

abbrev pub image_outcome_of : {T : Type 0} → Result T Rule → Outcome
image_outcome_of (Ok x) = accepted
image_outcome_of (Err rule) = outcome_of_refusal (of_image rule)
