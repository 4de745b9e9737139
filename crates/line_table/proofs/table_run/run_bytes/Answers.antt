use Rattle.std.proofs.Common.{rules}
use Rattle.line_table.proofs.RunLaws.{was_handed, was_shown}
use Rattle.line_table.proofs.table_run.run_bytes.Goals as goal

pub returns-in-Ok-Some-clause-told : goal.returns-in-Ok-Some-clause-told
returns-in-Ok-Some-clause-told c =
    let found = rw c.in-Ok-Some.field-0-is at c.in-Ok-Some.ensures in
    was_handed _ c.offer_bytes.result _ _ _ c.in-Ok-Some.bytes.items c.deref.result.now (search rules) found.hands c.offer_bytes.ensures.decodes

pub returns-in-Ok-None-clause-told : goal.returns-in-Ok-None-clause-told
returns-in-Ok-None-clause-told c = was_shown _ c.run_shown.result _ _ c.run_shown.ensures.told
