-- `header_rules::stage::check_headers`: after i headers the answer is that of rules 11 to 16 on them (Lowest.antt). Assumes nothing.
use Rattle.std.proofs.Common.{◌≡◌}
use Rattle.pdi_spec.specs.RuleList.{header_rules}
use Rattle.refusals.specs.Refusals.{outcome_of}
use Rattle.chain_rules.specs.File.{file_of_chain}
use Rattle.header_rules.specs.Headers.{verdict_up_to}
use Rattle.header_rules.proofs.stage.check_headers.Given as goal

abbrev pub invariant-loop-i : goal.invariant-loop-i
invariant-loop-i l = outcome_of l.lowest ≡ verdict_up_to header_rules (file_of_chain l.chain) l.i
