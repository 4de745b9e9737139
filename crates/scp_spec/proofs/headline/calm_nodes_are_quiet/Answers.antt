use Rattle.scp_spec.proofs.Runs.Claims.{quiet_claim}
use Rattle.scp_spec.proofs.headline.calm_nodes_are_quiet.Goals as goal

pub returns : goal.returns
returns c = quiet_claim
