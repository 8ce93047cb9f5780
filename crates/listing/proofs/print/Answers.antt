-- `listing::print` meets its contract, by the laws of Inputs.antt. Assumes nothing.
use Rattle.std.proofs.Common.{ap, arith, length}
use Rattle.pdi_spec.specs.RuleList.{plain_rules}
use Rattle.listing.proofs.Inputs.{held_text, short_buffer}
use Rattle.listing.proofs.Laws.Printed.{longest}
use Rattle.pdi_spec.proofs.Laws.Plain.{plain}
use Rattle.listing.proofs.print.Goals as goal

pub returns-then-out-lt-LONGEST-clause-writes : goal.returns-then-out-lt-LONGEST-clause-writes
returns-then-out-lt-LONGEST-clause-writes c = (short_buffer c.args.input.now c.args.out.now c.if-out-lt-LONGEST.true).1

pub push_reading-requires : goal.push_reading-requires
push_reading-requires c =
    let text = held_text plain_rules c.args.input.now _ c.in-Some.ensures.holds in
    omega (arith, ap length c.new-text.ensures, longest plain c.args.input.now (λ i. (c.type_inv.input i).fits), ap length text)
