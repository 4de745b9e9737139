use Rattle.scp_spec.proofs.Reach.Chains.{reach_chains}
use Rattle.scp_spec.proofs.closures.reach_follows_chains.Goals as goal

pub returns : goal.returns
returns c = reach_chains
