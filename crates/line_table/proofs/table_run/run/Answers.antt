use Rattle.line_table.proofs.RunLaws.{told}
use Rattle.line_table.proofs.table_run.run.Goals as goal

pub returns-in-Ok-Some-clause-told : goal.returns-in-Ok-Some-clause-told
returns-in-Ok-Some-clause-told c =
    let found = rw c.in-Ok-Some.field-0-is at c.in-Ok-Some.ensures in
    told _ _ _ _ _ _ found.asked c.ask.ensures.unchanged c.ask.ensures.backs
