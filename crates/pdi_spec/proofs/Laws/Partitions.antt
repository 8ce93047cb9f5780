-- Laws of what is said of one partition, of any list of rules: one thing of a p from 1 to N of an accepted file, and else another.
-- Assumes nothing.
use Rattle.std.specs.Prelude.{ℕ, ◌≤◌, ◌<◌, cond, List, ◌⊎◌, ◌≡◌, ltb}
use Rattle.std.proofs.Math.Bool.{true}
use Rattle.std.proofs.Math.Logic.{⊎_elim}
use Rattle.std.proofs.Math.Path.{refl}
use borrow.Author.Tests.{lt-ltb, le-ltb}
use Rattle.pdi_spec.specs.{File.File, File.partitions, Verdict.Rule, Verdict.Outcome, Verdict.accepted, Verdict.refused, Verdict.verdict, Rules.not_from, Answers.if_accepted, Answers.if_partition}
use Rattle.pdi_spec.proofs.Laws.{Tests.or_inl, Tests.or_inr}

module _ {A : Type 0} (rs : List Rule) (f : File) (p : ℕ) (yea nay : A) where
  -- refused
  pub refused_gives : {k q : ℕ} → verdict rs f ≡ refused k q → if_partition rs f p yea nay ≡ nay
  unfolding if_partition if_accepted
  refused_gives e = rw e refl

  -- of a p that isn't 1 to N
  pub other_gives : (p < 1) ⊎ (partitions f < p) → if_partition rs f p yea nay ≡ nay
  unfolding if_partition if_accepted not_from
  other_gives h = go (verdict rs f)
    where
      outside : not_from 1 (partitions f) p ≡ true
      outside =
          ⊎_elim (λ l. or_inl (ltb p 1) _ (lt-ltb p 1 l)) (λ l. or_inr (ltb p 1) (ltb (partitions f) p) (lt-ltb (partitions f) p l)) h

      go : (o : Outcome) → if_accepted o (cond (not_from 1 (partitions f) p) nay yea) nay ≡ nay
      go accepted = rw outside refl
      go (refused k q) = refl

  -- where a list accepts
  pub accepted_gives : verdict rs f ≡ accepted → 1 ≤ p → p ≤ partitions f → if_partition rs f p yea nay ≡ yea
  unfolding if_partition if_accepted not_from
  accepted_gives e low high = rw (e, le-ltb p 1 low, le-ltb (partitions f) p high) refl
