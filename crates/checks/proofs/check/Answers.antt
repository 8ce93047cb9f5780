-- `checks::check` meets its contract: what a table that keeps its rules says, and the later rules of it (Outcomes.antt). Assumes nothing.
use Rattle.std.proofs.Common.{◌∙◌}
use Rattle.pdi_spec.specs.RuleList.{later_rules, plain_rules}
use Rattle.checks.proofs.Outcomes.{few_partitions, headers_inside, rest}
use Rattle.checks.proofs.check.Goals as goal

pub check_partitions-requires-clause-few : goal.check_partitions-requires-clause-few
check_partitions-requires-clause-few c =
    let table = c.in_ok-table.ensures in few_partitions _ _ _ table.told table.table

pub check_partitions-requires-clause-images : goal.check_partitions-requires-clause-images
check_partitions-requires-clause-images c =
    let table = c.in_ok-table.ensures in headers_inside _ _ _ table.told table.table

pub returns-clause-told : goal.returns-clause-told
unfolding plain_rules
returns-clause-told c =
    let table = c.in_ok-table.ensures in
    c.check_partitions.ensures.told ∙ rest _ _ _ table.told table.table later_rules _ c.if-image-gt-LONGEST.false c.if-short.false
