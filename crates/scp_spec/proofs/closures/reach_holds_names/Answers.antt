use Rattle.scp_spec.proofs.Reach.Chains.{reach_names}
use Rattle.scp_spec.proofs.closures.reach_holds_names.Goals as goal

pub returns : goal.returns
returns c = reach_names
