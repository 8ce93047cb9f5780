-- `rows::bill::billed`: `words` is the sum of the i total lengths passed, each below 2^32. Assumes nothing.
use Rattle.std.specs.Prelude.{◌≡◌, ◌*◌, ◌≤◌}
use Rattle.chain_rules.specs.File.{file_of_chain}
use Rattle.rows.proofs.Totals.{totals}
use Rattle.rows.proofs.bill.billed.Given as goal

abbrev pub invariant-loop-i : goal.invariant-loop-i
invariant-loop-i l = record { sum : l.words ≡ totals (file_of_chain l.chain) l.i; small : l.words ≤ 0x1_0000_0000 * l.i }
