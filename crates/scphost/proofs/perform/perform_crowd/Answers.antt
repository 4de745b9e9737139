use Rattle.scphost.proofs.PrintingLaws.{has-crowded}
use Rattle.scphost.proofs.perform.perform_crowd.Goals as goal

pub returns-in-Ok-answered : goal.returns-in-Ok-answered
returns-in-Ok-answered g c = has-crowded _ _ _ _ _ _ _ _ _ _
    c.in-Ok-answered.answer c.in-Ok.ensures.submitted c.in-Ok-read_submission.ensures.submitted
    c.submission.ensures c.submission-2.ensures c.in-Ok-answered.ensures c.print_answer.ensures
