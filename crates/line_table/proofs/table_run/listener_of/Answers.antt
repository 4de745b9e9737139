use Rattle.line_table.proofs.RunLaws.{began}
use Rattle.line_table.proofs.table_run.listener_of.Goals as goal

pub returns-in-Ok-Some-clause-told : goal.returns-in-Ok-Some-clause-told
returns-in-Ok-Some-clause-told c =
    let found = rw c.in-Ok-Some.field-0-is at c.in-Ok-Some.ensures in
    began _ _ _ c.new.ensures found.begins
