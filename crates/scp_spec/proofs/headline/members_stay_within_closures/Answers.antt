use Rattle.scp_spec.proofs.Runs.Prefixes.{prefix_of_whole_run}
use Rattle.scp_spec.proofs.headline.members_stay_within_closures.Goals as goal

pub returns : goal.returns
returns c = prefix_of_whole_run
