-- Tests joined from the left, as code joins them by `|`, are a definition's `any_true` of their list. Assumes nothing.
use Rattle.std.specs.Prelude.{Bool, ◌||◌, List, [], ◌∷◌, ◌++◌, ◌≡◌, refl}
use Rattle.std.proofs.Math.Bool.{or_assoc, or-false}
use Rattle.std.proofs.Common.{sym, ◌∙◌}
use Rattle.pdi_spec.specs.Lists.{any_true}

abbrev joined : Bool → List Bool → Bool
joined test [] = test
joined test (next ∷ tests) = joined (test || next) tests

pub joined_any : (test : Bool) (tests : List Bool) → joined test tests ≡ any_true (test ∷ tests)
unfolding any_true
joined_any test [] = sym (or-false test)
joined_any test (next ∷ tests) = joined_any (test || next) tests ∙ or_assoc test next (any_true tests)

joined_last : (test : Bool) (tests : List Bool) (last : Bool) → joined test (tests ++ (last ∷ [])) ≡ (joined test tests || last)
joined_last test [] last = refl
joined_last test (next ∷ tests) last = joined_last (test || next) tests last

-- the tests before the last settle the answer, where they are joined to `true`, or leave it to the last
pub any_by_last : (test : Bool) (tests : List Bool) (last : Bool) {t : Bool} → joined test tests ≡ t
    → (t || last) ≡ any_true (test ∷ (tests ++ (last ∷ [])))
any_by_last test tests last e = rw (← e, ← joined_last test tests last) (joined_any test (tests ++ (last ∷ [])))
