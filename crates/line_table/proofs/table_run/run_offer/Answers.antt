use Rattle.line_table.proofs.RunLaws.{was_put}
use Rattle.line_table.proofs.table_run.run_offer.Goals as goal

pub returns-in-Ok-Some-clause-told : goal.returns-in-Ok-Some-clause-told
returns-in-Ok-Some-clause-told c =
    let found = rw c.in-Ok-Some.field-0-is at c.in-Ok-Some.ensures in
    was_put _ c.offer.result _ _ _ c.slot.result _ c.slot.ensures found.puts c.offer.ensures.takes
