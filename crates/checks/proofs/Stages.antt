-- The stages joined: what their verdicts say of the whole list of rules 10 to 20. Assumes nothing.
use Rattle.std.specs.Prelude.{◌≡◌, ℕ, [], ◌∷◌, refl}
use Rattle.std.proofs.Common.{◌∙◌, ap}
use Rattle.pdi_spec.specs.File.{File}
use Rattle.pdi_spec.specs.RuleList.{rule10, rule17, rule18, rule19, rule20, header_rules, partition_rules, clash_rules, image_rules, later_rules}
use Rattle.pdi_spec.specs.Verdict.{Outcome, accepted, refused, verdict}
use Rattle.pdi_spec.proofs.Laws.Verdict.{and_then, verdict_append}
use Rattle.refusals.proofs.Conversions.{passed_on, from_rule}

-- a stage that refuses settles the verdict, and one that doesn't leaves it to the next
pub refused_first : (k p : ℕ) (later : Outcome) → and_then (refused k p) later ≡ refused k p
unfolding and_then
refused_first k p later = refl

pub accepted_first : (later : Outcome) → and_then accepted later ≡ later
unfolding and_then
accepted_first later = refl

-- the stages of rules 10 to 20, one after another
pub later_split : (f : File)
    → verdict later_rules f
    ≡ and_then (verdict (rule10 ∷ []) f)
    (and_then (verdict header_rules f)
    (and_then (verdict (rule17 ∷ []) f)
    (and_then (verdict (rule18 ∷ []) f) (and_then (verdict (rule19 ∷ []) f) (verdict (rule20 ∷ []) f)))))
unfolding later_rules partition_rules clash_rules image_rules header_rules
later_split f =
    verdict_append (rule10 ∷ []) _ f
    ∙ ap (and_then (verdict (rule10 ∷ []) f))
    (verdict_append header_rules _ f
    ∙ ap (and_then (verdict header_rules f))
    (verdict_append (rule17 ∷ []) _ f
    ∙ ap (and_then (verdict (rule17 ∷ []) f))
    (verdict_append (rule18 ∷ []) _ f
    ∙ ap (and_then (verdict (rule18 ∷ []) f)) (verdict_append (rule19 ∷ []) (rule20 ∷ []) f))))

-- what the ways out of the stages need
pub ruleset stages = (later_split, refused_first, accepted_first, passed_on, from_rule)
