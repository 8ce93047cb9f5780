-- `reader::bodies::part_of` meets its contract for a p from 1 to N (Questions.antt). Assumes nothing.
use Rattle.std.proofs.Common.{sym, arith}
use Rattle.pdi_spec.proofs.Laws.Plain.{plain}
use Rattle.reader.proofs.Questions.{ends, part_is}
use Rattle.reader.proofs.bodies.part_of.Goals as goal

pub returns-clause-part : goal.returns-clause-part
returns-clause-part c =
    let read = c.in-Ok.ensures in
    let h = c.header-h.ensures in
    sym (part_is plain _ _ read.told c.in-Ok.accepted read.held _ (omega arith) (omega arith) h c.body.ensures)

pub returns-clause-inside : goal.returns-clause-inside
returns-clause-inside c =
    let read = c.in-Ok.ensures in
    let h = c.header-h.ensures in
    ends plain _ _ read.told c.in-Ok.accepted read.held _ (omega arith) (omega arith) h c.body.ensures
