-- `image_rules::owners::owner_of`: the first i images own that many partitions, fewer than p (Owned.antt). Assumes nothing.
use Rattle.chain_rules.specs.Chain.{file_of}
use Rattle.image_rules.proofs.Owned.{OwnedSoFar}
use Rattle.image_rules.proofs.owners.owner_of.Given as goal

abbrev pub invariant-loop-i : goal.invariant-loop-i
invariant-loop-i l = OwnedSoFar (file_of l.headers.image.now l.headers.table) l.p l.owned l.i
