use Rattle.line_table.specs.TableLines.{Decodes}
use Rattle.line_table.proofs.RunLaws.{said, was_decoded}
use Rattle.line_table.proofs.table_run.offer_bytes.Goals as goal

pub returns-in-Ok-clause-decodes : goal.returns-in-Ok-clause-decodes
returns-in-Ok-clause-decodes c = was_decoded _ c.offer.result _ _ _ _ c.in-Ok.ensures.found c.offer.ensures.takes

pub returns-in-Err-Fault-clause-decodes : goal.returns-in-Err-Fault-clause-decodes
returns-in-Err-Fault-clause-decodes c =
    let wrong = rw c.in-Err-Fault.field-0-is at c.in-Err-Fault.ensures in
    said _ _ (λ printed. Decodes c.args.listener.now c.args.bytes.now printed c.args.listener.now) c.say_fault.result
    (Decodes.fault c.in-Err-Fault.fault wrong.fault) c.say_fault.ensures.said
