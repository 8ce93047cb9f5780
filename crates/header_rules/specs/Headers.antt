-- One header and the rules of a list, and the lowest rule that the first headers break: what the stage of rules 11 to 16 keeps while it
-- goes along the chain. Assumes nothing.
use Rattle.std.specs.Prelude.{ℕ, cond, List, [], ◌∷◌, ◌≡◌, ltb, Result, Ok, Err, IfOk}
use Rattle.std.proofs.Math.Option.{Option, none, some, Option-elim}
use Rattle.pdi_spec.specs.Lists.{numbers, first_of}
use Rattle.pdi_spec.specs.File.{File, header}
use Rattle.pdi_spec.specs.RuleList.{header_rules}
use Rattle.pdi_spec.specs.Verdict.{Rule, Outcome, accepted, refused, first_broken}
use Rattle.headers.specs.Headers.{header_of}
use Rattle.headers.specs.declared.partition.PartitionHeader.{PartitionHeader}
use Rattle.refusals.specs.Refusals.{number_of}
use Rattle.refusals.specs.declared.Rule as Rule

-- the verdict of rules that are tried at each partition, when only the first n partitions are looked at
unfoldable pub verdict_up_to : List Rule → File → ℕ → Outcome
verdict_up_to [] f n = accepted
verdict_up_to (r ∷ rs) f n =
    let later = verdict_up_to rs f n in
    Option-elim (first_of (r.broken f) (numbers 1 n)) later (refused r.number)

-- the lower of a refusal so far and the number of a rule that is broken at p, if one is; of equal numbers the earlier p stays
unfoldable pub lower_of : Outcome → Option ℕ → ℕ → Outcome
lower_of o none p = o
lower_of accepted (some k) p = refused k p
lower_of (refused m q) (some k) p = cond (ltb k m) (refused k p) (refused m q)

abbrev pub number_in : Result PartitionHeader Rule.Rule → Option ℕ
number_in (Ok h) = none
number_in (Err rule) = some (number_of rule)

-- what is said of header p: the first of rules 11 to 16 that it breaks, or the header itself
pub record HeaderTold (f : File) (p : ℕ) (r : Result PartitionHeader Rule.Rule) : Type 0 where
  pub number : number_in r ≡ first_broken header_rules f p
  pub own : IfOk r (λ (h : PartitionHeader). header_of h ≡ header f p)
