-- Rule 20 in a list of rules: where those before it are kept, it is what refuses exactly where the images don't own runs of the chain. And
-- of plain reading's answer. Assumes nothing.
use Rattle.std.specs.Prelude.{ℕ, ◌*◌, ◌<◌, ◌↔◌, ◌≡◌}
use Rattle.std.proofs.Common.{arith, sym, ◌∙◌}
use mathlib.Core.List.{List, [], ◌∷◌, ◌++◌, Mem, not-mem-nil}
use Rattle.std.proofs.Math.Path.{refl, ap}
use Rattle.pdi_spec.specs.{Limits.answer_unit, File.File, ImageRules.image_headers_bad, ImageRules.AllOwnRuns, RuleList.rule20, RuleList.table_rules, RuleList.header_rules, RuleList.partition_rules, RuleList.reading_rules, RuleList.clash_rules, RuleList.image_rules, RuleList.later_rules, RuleList.plain_rules, RuleList.with_buffer, Verdict.Rule, Verdict.refused, Verdict.verdict, Verdict.Keeps, Answers.answer}
use Rattle.pdi_spec.proofs.Laws.{Once.once_exactly, Images.runs_broken, Plain.plain, Questions.refusal}

module _ (f : File) (before after : List Rule) (kept : Keeps before f) (high : (r : Rule) → Mem r after → 20 < r.number) where
  pub refused_20 : (p : ℕ) → (verdict (before ++ (rule20 ∷ after)) f ≡ refused 20 p) ↔ ((AllOwnRuns f → ⊥) × (p ≡ 0))
  refused_20 p =
      let law = once_exactly 20 image_headers_bad f before after kept high p in (
        λ e. let t = law.0 e in ((runs_broken f).0 t.0, t.1),
        λ t. law.1 ((runs_broken f).1 t.0, t.1),
      )

-- ---- plain reading, with rules 1 to 19 kept

module _ (least have : ℕ) (f : File) (kept : Keeps (with_buffer least have (reading_rules ++ clash_rules)) f) where
  abbrev before_20 : List Rule
  before_20 = with_buffer least have (reading_rules ++ clash_rules)

  split : verdict (with_buffer least have plain_rules) f ≡ verdict (before_20 ++ (rule20 ∷ [])) f
  unfolding with_buffer plain_rules later_rules reading_rules table_rules partition_rules header_rules clash_rules image_rules
  split = refl

  pub answers_20 : (answer (verdict (with_buffer least have plain_rules) f) ≡ answer_unit * 20) ↔ (AllOwnRuns f → ⊥)
  unfolding answer
  answers_20 =
      let law = refused_20 f before_20 [] kept (λ r m. absurd (not-mem-nil m)) 0 in (
        λ e. (law.0 (sym split ∙ refusal plain least have f 20 0 (omega arith) (omega arith) (omega (arith, e)))).0,
        λ n. ap answer (split ∙ law.1 (n, refl)),
      )
