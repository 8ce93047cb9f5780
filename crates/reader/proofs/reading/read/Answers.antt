-- `reader::reading::read` meets its contract (Questions.antt): the rows have room, and are written. Assumes nothing.
use Rattle.pdi_spec.specs.RuleList.{plain_rules}
use Rattle.reader.proofs.Questions.{room, accepted_rows}
use Rattle.reader.proofs.reading.read.Goals as goal

pub write-requires : goal.write-requires
write-requires c = room plain_rules _ _ _ c.in-Ok.ensures.told c.in-Ok.accepted

pub returns-in-Ok-clause-writes : goal.returns-in-Ok-clause-writes
returns-in-Ok-clause-writes c =
    accepted_rows plain_rules _ _ c.args.rows.now c.in-Ok.ensures.told c.in-Ok.accepted c.in-Ok.ensures.held c.write.ensures
