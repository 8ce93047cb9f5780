-- `block_rules::stage::check_blocks` goes along the file's blocks: what the table's block and each partition's tell (Blocks.antt).
-- Assumes nothing.
use Rattle.std.proofs.Common.{arith, refl, ◌∙◌}
use Rattle.chain_rules.proofs.Counts.{counted}
use Rattle.refusals.proofs.Conversions.{from_rule}
use Rattle.block_rules.proofs.Blocks.{table_block, table_broken, starts, broken, onward}
use Rattle.block_rules.proofs.stage.check_blocks.Goals as goal

pub returns-in_err-check_block-clause-told : goal.returns-in_err-check_block-clause-told
returns-in_err-check_block-clause-told c =
    from_rule c.from_residual.result _ c.from_residual.ensures.1
    ∙ table_broken _ (table_block _ _ c.args.chain.now.followed.own) c.check_block.ensures c.in_err-check_block.was

pub loop-i-init : goal.loop-i-init
loop-i-init c = starts _ (table_block _ _ c.args.chain.now.followed.own) c.check_block.ensures _ c.in_ok-check_block.was refl

pub returns-in_default-clause-told : goal.returns-in_default-clause-told
returns-in_default-clause-told c =
    broken _ c.loop-i.invariant c.header-h.ensures c.check_block-in-loop-i.ensures (omega (arith, counted c.args.chain.now.followed))
    c.in_default.is

pub loop-i-preserved : goal.loop-i-preserved
loop-i-preserved c =
    onward _ c.loop-i.invariant c.header-h.ensures c.check_block-in-loop-i.ensures (omega (arith, c.args.chain.now.followed.few)) c.in-Ok.is
