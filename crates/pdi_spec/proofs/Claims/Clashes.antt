-- Claims, demand 2: rules 18 and 19 of any list refuse exactly what is claimed twice; of read's own answer see Answers.antt, `read_twice`.
-- Assumes nothing.
use Rattle.std.specs.Prelude.{ℕ, ◌<◌, ◌↔◌, ◌≡◌}
use mathlib.Core.List.{List, ◌∷◌, ◌++◌, Mem}
use Rattle.pdi_spec.specs.{File.File, Verdict.Rule, Verdict.refused, Verdict.verdict, Verdict.Keeps, RuleList.rule18, RuleList.rule19, RuleList.reading_rules, Twice.PositionTwice, Twice.AddressTwice, Twice.SmallestMeeting}
use Rattle.pdi_spec.proofs.Laws

-- With the rules before 18 kept, rules 3 to 17 among them, and only higher numbers after 19: refused with 18 exactly when some position is
-- claimed twice, and then with p = 0.
pub refused_18 : (f : File) (before after : List Rule) → Keeps before f → Keeps reading_rules f
    → ((r : Rule) → Mem r after → 19 < r.number)
    → (p : ℕ) → (verdict (before ++ (rule18 ∷ rule19 ∷ after)) f ≡ refused 18 p) ↔ (PositionTwice f × (p ≡ 0))
refused_18 = Laws.ClashVerdict.refused_18

-- Refused with 19 exactly when no position is claimed twice, but some address is.
pub refused_19 : (f : File) (before after : List Rule) → Keeps before f → Keeps reading_rules f
    → ((r : Rule) → Mem r after → 19 < r.number)
    → ((p : ℕ) × (verdict (before ++ (rule18 ∷ rule19 ∷ after)) f ≡ refused 19 p)) ↔ ((PositionTwice f → ⊥) × AddressTwice f)
refused_19 = Laws.ClashVerdict.refused_19_some

-- And then p is the smallest partition whose load range shares an address with an earlier partition's.
pub refused_19_at : (f : File) (before after : List Rule) → Keeps before f → Keeps reading_rules f
    → ((r : Rule) → Mem r after → 19 < r.number)
    → (p : ℕ) → (verdict (before ++ (rule18 ∷ rule19 ∷ after)) f ≡ refused 19 p) ↔ ((PositionTwice f → ⊥) × SmallestMeeting f p)
refused_19_at = Laws.ClashVerdict.refused_19
