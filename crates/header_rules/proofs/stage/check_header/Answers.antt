-- `header_rules::stage::check_header`: the header that is read lies inside, as the chain says. Assumes nothing.
use Rattle.std.proofs.Common.{arith, ap}
use Rattle.pdi_spec.specs.File.{header}
use Rattle.pdi_spec.specs.Headers.{Header, header_from}
use Rattle.header_rules.proofs.stage.check_header.Goals as goal

pub header_checksum_bad-requires : goal.header_checksum_bad-requires
unfolding header header_from
header_checksum_bad-requires c =
    let at = ap (λ (h : Header). h.at) c.header-h.ensures in
    let chain = c.args.chain.now.followed in
    omega (arith, at, chain.along c.args.i c.requires, chain.inside c.args.i c.requires)
