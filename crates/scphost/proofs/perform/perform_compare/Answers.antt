use Rattle.scphost.proofs.PrintingLaws.{has-compared}
use Rattle.scphost.proofs.perform.perform_compare.Goals as goal

pub returns-in-Ok-answered : goal.returns-in-Ok-answered
returns-in-Ok-answered g c = has-compared _ _ _ _ _ _ _
    c.in-Ok.finished c.in-Ok-read_and_run.finished c.in-Ok-answered.answer
    c.in-Ok.ensures.story c.in-Ok-read_and_run.ensures.story c.in-Ok-answered.ensures c.print_answer.ensures
