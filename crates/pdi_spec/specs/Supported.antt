-- What the claims of read's, bill's, body's and the host's answers rest on: they hold of every question whose own rules of the image
-- (RuleList.antt) are so. Assumes nothing.
use Rattle.std.specs.Prelude.{ℕ, ◌≤◌, ◌<◌, ◌≡◌}
use mathlib.Core.List.{List, ◌++◌, Mem, Pairwise}
use Rattle.pdi_spec.specs.File.{File, partitions}
use Rattle.pdi_spec.specs.Verdict.{Rule}
use Rattle.pdi_spec.specs.RuleList.{table_rules, rule14, rule15, rule16, rule18, rule19, rule20}

-- the rule is tried in ascending order, and at no p over N
pub record WellTried (r : Rule) : Type 0 where
  pub ascending : (f : File) → Pairwise (λ (a b : ℕ). a < b) (r.tried f)
  pub in_chain : (f : File) (p : ℕ) → Mem p (r.tried f) → p ≤ partitions f

pub record Supported (own : List Rule) : Type 0 where
  -- rules 3 to 9 come first, so that rule 6 has counted the partitions before a rule is tried at one
  pub later : List Rule
  pub table_first : own ≡ table_rules ++ later
  -- what a header states of lengths, its span and its load address is looked at, and so are clashes of stored ranges and of load ranges,
  -- and the images' runs of the chain
  pub lengths : Mem rule14 own
  pub spans : Mem rule15 own
  pub addresses : Mem rule16 own
  pub stored : Mem rule18 own
  pub loads : Mem rule19 own
  pub images : Mem rule20 own
  -- number 0 is an acceptance, 1 and 2 are numbers of the rules that come before the question's own
  pub over_2 : (r : Rule) → Mem r own → 2 < r.number
  -- numbers are small, so that 64 × number + p fits a 64-bit number, whatever the list
  pub below_64 : (r : Rule) → Mem r own → r.number < 64
  pub well_tried : (r : Rule) → Mem r own → WellTried r
