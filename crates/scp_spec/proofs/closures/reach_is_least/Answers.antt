use Rattle.scp_spec.proofs.Reach.Chains.{reach_least}
use Rattle.scp_spec.proofs.closures.reach_is_least.Goals as goal

pub returns : goal.returns
returns c = reach_least
