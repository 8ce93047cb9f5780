-- `image_rules::runs::run_at`: where no partition is left, and that the image header lies inside (ImageRuns.antt). Assumes nothing.
use Rattle.std.proofs.Common.{arith, ap}
use Rattle.pdi_spec.specs.Headers.{ImageHeader, image_header_from}
use Rattle.pdi_spec.specs.Images.{image_header}
use Rattle.chain_rules.proofs.Counts.{counted}
use Rattle.image_rules.proofs.ImageRuns.{none_left}
use Rattle.image_rules.proofs.runs.run_at.Goals as goal

pub returns-then-headers-owned : goal.returns-then-headers-owned
returns-then-headers-owned c = none_left _ c.args.i (counted c.requires.chain) c.requires.before c.if-headers-owned.true

pub checksum-sum-requires : goal.checksum-sum-requires
unfolding image_header image_header_from
checksum-sum-requires c =
    omega (arith, ap (λ (h : ImageHeader). h.at) c.header-h.ensures, c.args.headers.now.all_inside.inside c.args.i c.requires.counted)
