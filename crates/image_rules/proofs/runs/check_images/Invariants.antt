-- `image_rules::runs::check_images`: after i images, their runs follow one another (ImageRuns.antt). Assumes nothing.
use Rattle.chain_rules.specs.File.{file_of_chain}
use Rattle.image_rules.proofs.ImageRuns.{RunsSoFar}
use Rattle.image_rules.proofs.runs.check_images.Given as goal

abbrev pub invariant-loop-i : goal.invariant-loop-i
invariant-loop-i l = RunsSoFar (file_of_chain l.chain) l.owned l.i
