use Rattle.host_compare.proofs.SameSteps.{same_events}
use Rattle.host_compare.proofs.events.is_same_step.Goals as goal

pub returns-clause-alike : goal.returns-clause-alike
returns-clause-alike c = λ readable e. c.is_same_event.ensures.1 (same_events c.args.one.now c.args.other.now c.has_bytes.ensures c.has_bytes-2.ensures readable e)
