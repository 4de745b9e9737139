use Rattle.line_run.proofs.FollowedLaws.{runs_follow_journals}
use Rattle.line_run.proofs.host_run.waiting_emissions_are_found.Goals as goal

pub returns-clause-runs : goal.returns-clause-runs
returns-clause-runs c = runs_follow_journals
