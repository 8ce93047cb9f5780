-- What `?` makes of a refusal, which it passes on, and of a rule of the whole image. Assumes nothing.
use mathlib.Core.Path.{◌≡◌, ap}
use Rattle.std.specs.Prelude.{Result, Ok, Err, IsErrAnd}
use Rattle.refusals.specs.Refusals.{of_image, outcome_of, outcome_of_refusal}
use Rattle.refusals.specs.declared.Refusal.{Refusal}
use Rattle.refusals.specs.declared.Rule.{Rule}

pub passed_on : {T : Type 0} (r : Result T Refusal) (refusal : Refusal) → IsErrAnd r (λ e. e ≡ refusal)
    → outcome_of r ≡ outcome_of_refusal refusal
passed_on (Ok x) refusal e = absurd e
passed_on (Err other) refusal e = ap outcome_of_refusal e

pub from_rule : {T : Type 0} (r : Result T Refusal) (rule : Rule) → IsErrAnd r (λ e. e ≡ of_image rule)
    → outcome_of r ≡ outcome_of_refusal (of_image rule)
from_rule r rule e = passed_on r (of_image rule) e
