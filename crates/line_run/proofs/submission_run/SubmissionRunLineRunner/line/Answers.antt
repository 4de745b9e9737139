use Rattle.std.proofs.Common.{refl}
use Rattle.line_run.specs.Submitting.Submits.{declares, submits}
use Rattle.line_run.proofs.submission_run.SubmissionRunLineRunner.line.Goals as goal

pub returns-in_ok-submit-in-Apply-clause-told : goal.returns-in_ok-submit-in-Apply-clause-told
returns-in_ok-submit-in-Apply-clause-told c = submits _ _ (rw c.in-Apply.is at c.in_ok-number.ensures.asked) c.in_ok-submit-in-Apply.ensures.allowed c.in_ok-submit-in-Apply.ensures.told

pub returns-in_ok-prepare-in-Declare-clause-told : goal.returns-in_ok-prepare-in-Declare-clause-told
returns-in_ok-prepare-in-Declare-clause-told c =
    rw (← c.self.view_is)
    (declares (_, _, rw c.in-Declare.is at c.in_ok-number.ensures.asked, c.in_ok-prepare-in-Declare.ensures.taken, c.in_ok-prepare-in-Declare.ensures.prepared)
    refl c.prepare.ensures.named refl)
