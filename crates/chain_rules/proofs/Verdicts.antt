-- The verdict of one rule, from the first p that breaks it. Assumes nothing.
use Rattle.std.proofs.Common.{ℕ, [], ◌∷◌, ◌≡◌, sym}
use Rattle.std.proofs.Math.Option.{none, some}
use Rattle.pdi_spec.specs.File.{File}
use Rattle.pdi_spec.specs.Lists.{first_of}
use Rattle.pdi_spec.specs.Verdict.{Rule, accepted, refused, verdict, Kept}
use Rattle.pdi_spec.proofs.Laws.Firsts.{first_none}
use Rattle.pdi_spec.proofs.Laws.Verdict.{verdict_broken, verdict_kept}

module _ (r : Rule) (f : File) where
  pub one_broken : {p : ℕ} → first_of (r.broken f) (r.tried f) ≡ some p → refused r.number p ≡ verdict (r ∷ []) f
  one_broken {p} e = sym (verdict_broken r [] f p e)

  pub one_kept : first_of (r.broken f) (r.tried f) ≡ none → accepted ≡ verdict (r ∷ []) f
  unfolding verdict Kept
  one_kept e = sym (verdict_kept r [] f (first_none (r.broken f) (r.tried f) e))
