use Rattle.scphost.proofs.PrintingLaws.{has-pooled}
use Rattle.scphost.proofs.perform.perform_pool.Goals as goal

pub returns-in-Ok : goal.returns-in-Ok
returns-in-Ok g c = has-pooled _ _ _ _ c.in-Ok.answer c.in-Ok.ensures.pooled c.print_answer.ensures
