use Rattle.std.proofs.Common.{rules, refl}
use Rattle.line_run.proofs.submission_run.SubmissionRun.submit.Goals as goal

pub returns-2-clause-told : goal.returns-2-clause-told
returns-2-clause-told c = (
  record { closing = c.self.inside.closing; waiting = c.begin.new.self.waiting; named = c.begin.new.self.named; history = c.begin.new.networks },
  (search rules, search rules, search rules),
  refl,
  refl,
  refl,
  c.in_ok-submit.ensures.ok,
)
