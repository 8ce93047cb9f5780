-- Laws of a rule that is tried once, in a list of rules: where it stands first, and where those before it are kept. Assumes nothing.
use Rattle.std.specs.Prelude.{ℕ, ◌<◌, Bool, true, false, ◌↔◌, ◌≡◌, refl}
use mathlib.Core.List.{List, ◌∷◌, ◌++◌, Mem}
use Rattle.std.proofs.Common.{⊎_elim, sym, ◌∙◌, ap}
use Rattle.pdi_spec.specs.{Lists.first_of, File.File, Verdict.Rule, Verdict.once, Verdict.refused, Verdict.verdict, Verdict.Kept, Verdict.Keeps}
use Rattle.pdi_spec.proofs.Laws.{Tests.either, Verdict.verdict_broken, Verdict.verdict_kept, Verdict.verdict_skip, Verdict.no_such_number, Verdict.refused_p}

module _ (k : ℕ) (c : File → Bool) (f : File) where
  pub once_broken : (rs : List Rule) → c f ≡ true → verdict (once k c ∷ rs) f ≡ refused k 0
  unfolding once first_of
  once_broken rs e = verdict_broken (once k c) rs f 0 (rw e refl)

  pub once_kept : (rs : List Rule) → c f ≡ false → verdict (once k c ∷ rs) f ≡ verdict rs f
  unfolding once Kept
  once_kept rs e = verdict_kept (once k c) rs f (λ p m. e)

  module _ (before after : List Rule) (kept : Keeps before f) where
    pub broken_here : c f ≡ true → verdict (before ++ (once k c ∷ after)) f ≡ refused k 0
    broken_here e = verdict_skip before (once k c ∷ after) f kept ∙ once_broken after e

    pub kept_here : c f ≡ false → verdict (before ++ (once k c ∷ after)) f ≡ verdict after f
    kept_here e = verdict_skip before (once k c ∷ after) f kept ∙ once_kept after e

    -- with only higher numbers after it, the list refuses with its number exactly where it is broken, and then with p = 0
    pub once_exactly : ((r : Rule) → Mem r after → k < r.number) → (p : ℕ)
        → (verdict (before ++ (once k c ∷ after)) f ≡ refused k p) ↔ ((c f ≡ true) × (p ≡ 0))
    once_exactly high p = (
      λ e.
          ⊎_elim (λ h. (h, refused_p (sym e ∙ broken_here h)))
          (λ h. absurd (no_such_number after f k p high (sym (kept_here h) ∙ e))) (either (c f)),
      λ t. broken_here t.0 ∙ ap (refused k) (sym t.1),
    )
