-- `block_rules::stage::check_blocks`: after i partitions, the first blocks of the file are good (Blocks.antt). Assumes nothing.
use Rattle.chain_rules.specs.File.{file_of_chain}
use Rattle.block_rules.proofs.Blocks.{BlocksSoFar}
use Rattle.block_rules.proofs.stage.check_blocks.Given as goal

abbrev pub invariant-loop-i : goal.invariant-loop-i
invariant-loop-i l = BlocksSoFar (file_of_chain l.chain) l.entries l.i
