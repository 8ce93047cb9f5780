-- `chain_rules::follow::check_chain`: after i headers, i links of the file's chain are followed (Chains.antt). Assumes nothing.
use Rattle.chain_rules.specs.Chain.{file_of}
use Rattle.chain_rules.proofs.Chains.{ChainSoFar}
use Rattle.chain_rules.proofs.follow.check_chain.Given as goal

abbrev pub invariant-loop-i : goal.invariant-loop-i
invariant-loop-i l = ChainSoFar (file_of l.image l.table) l.offsets l.at l.i
