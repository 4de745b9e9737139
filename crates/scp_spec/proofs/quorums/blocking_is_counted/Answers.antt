use Rattle.scp_spec.proofs.Slices.Satisfaction.{blocking_counted}
use Rattle.scp_spec.proofs.quorums.blocking_is_counted.Goals as goal

pub returns : goal.returns
returns c = blocking_counted
