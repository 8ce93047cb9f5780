-- Rules tried one after another at one p, as code tries them: a test that is true stops there, one that is false goes on; and the verdict
-- of rules that are all tried once, at 0. Assumes nothing.
use Rattle.std.specs.Prelude.{ℕ, Bool, true, false, cond, List, [], ◌∷◌, ◌≡◌}
use Rattle.std.proofs.Math.Option.{Option, some, Option-elim}
use Rattle.std.proofs.Math.Path.{refl}
use Rattle.std.proofs.Common.{◌∙◌, ap}
use Rattle.pdi_spec.specs.File.{File}
use Rattle.pdi_spec.specs.Lists.{first_of}
use Rattle.pdi_spec.specs.Verdict.{Rule, Outcome, accepted, refused, verdict, first_broken}

module _ (r : Rule) (rs : List Rule) (f : File) (p : ℕ) {t : Bool} (told : t ≡ r.broken f p) where
  pub stops : t ≡ true → first_broken (r ∷ rs) f p ≡ some r.number
  unfolding first_broken
  stops e = rw (← told, e) refl

  pub goes_on : t ≡ false → first_broken (r ∷ rs) f p ≡ first_broken rs f p
  unfolding first_broken
  goes_on e = rw (← told, e) refl

-- every rule is tried at 0 alone
abbrev pub Onces : File → List Rule → Type 0
Onces f [] = Unit
Onces f (r ∷ rs) = (r.tried f ≡ 0 ∷ []) × Onces f rs

-- the outcome of a number found at 0
abbrev pub at_zero : Option ℕ → Outcome
at_zero found = Option-elim found accepted (λ k. refused k 0)

pub once_verdict : (rs : List Rule) (f : File) → Onces f rs → verdict rs f ≡ at_zero (first_broken rs f 0)
unfolding verdict first_broken first_of Option-elim
once_verdict [] f h = refl
once_verdict (r ∷ rs) f h =
    ap (λ (l : List ℕ). Option-elim (first_of (r.broken f) l) (verdict rs f) (refused r.number)) h.0
    ∙ go (r.broken f 0) (once_verdict rs f h.1)
  where
    go : (b : Bool) → verdict rs f ≡ at_zero (first_broken rs f 0)
        → Option-elim (cond b (some 0) (first_of (r.broken f) [])) (verdict rs f) (refused r.number)
        ≡ at_zero (cond b (some r.number) (first_broken rs f 0))
    go true ih = refl
    go false ih = ih
