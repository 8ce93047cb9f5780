-- `reader::bodies::body` meets its contract: a part of a slice has that part's bytes. Assumes nothing.
use Rattle.std.proofs.Common.{sym}
use Rattle.pdi_spec.specs.Answers.{empty_part}
use Rattle.pdi_spec.specs.RuleList.{plain_rules}
use Rattle.reader.proofs.Questions.{part_bytes}
use Rattle.reader.proofs.bodies.body.Goals as goal

pub returns-in_default-clause-bytes : goal.returns-in_default-clause-bytes
returns-in_default-clause-bytes c = part_bytes plain_rules _ _ _ empty_part (sym c.in_default.ensures.part)

pub returns-clause-bytes : goal.returns-clause-bytes
returns-clause-bytes c = part_bytes plain_rules _ _ _ _ (sym c.in-Some.ensures.part)
