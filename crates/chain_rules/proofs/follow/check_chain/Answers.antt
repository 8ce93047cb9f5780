-- `chain_rules::follow::check_chain`: each step follows one link more (Chains.antt). Assumes nothing.
use Rattle.std.proofs.Common.{arith}
use Rattle.chain_rules.proofs.Chains.{onward}
use Rattle.chain_rules.proofs.follow.check_chain.Goals as goal

pub loop-i-preserved : goal.loop-i-preserved
loop-i-preserved c = onward _ c.loop-i.invariant (omega (arith, c.requires.few)) c.link_at.ensures c.in-Some.is
