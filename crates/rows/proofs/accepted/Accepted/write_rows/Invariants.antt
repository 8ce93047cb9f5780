-- `rows::accepted::Accepted::write_rows`: the first i rows are stored, and nothing else is changed. Assumes nothing.
use Rattle.std.specs.Prelude.{◌≡◌}
use Rattle.std.proofs.lemmas.List.Edits.{sets}
use Rattle.pdi_spec.specs.Limits.{head_width}
use Rattle.chain_rules.specs.File.{file_of_chain}
use Rattle.rows.specs.Rows.{first_rows}
use Rattle.rows.proofs.accepted.Accepted.write_rows.Given as goal

abbrev pub invariant-loop-i : goal.invariant-loop-i
invariant-loop-i l = l.rows ≡ sets l.initial.rows head_width (first_rows (file_of_chain l.self.chain) l.i)
