use Rattle.scphost.proofs.PrintingLaws.{has-reported}
use Rattle.scphost.proofs.perform.perform_closure.Goals as goal

pub returns-in-Ok-answered : goal.returns-in-Ok-answered
returns-in-Ok-answered g c = has-reported _ _ _ _ _ _
    c.in-Ok.finished c.in-Ok-answered.answer c.in-Ok.ensures.story
    c.in-Ok-answered.ensures c.print_answer.ensures
