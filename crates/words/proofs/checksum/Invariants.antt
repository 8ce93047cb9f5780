-- The loop of `words::checksum`: `sum` is the checksum of the `i` words passed. Assumes nothing.
use Rattle.std.proofs.Common.{◌≡◌}
use Rattle.pdi_spec.specs.Words.{checksum}
use Rattle.words.proofs.checksum.Given as goal

abbrev pub invariant-loop-i : goal.invariant-loop-i
invariant-loop-i l = l.sum ≡ checksum l.s l.at l.i
