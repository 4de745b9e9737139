use Rattle.scp_spec.proofs.Sets.Least.{closures_least}
use Rattle.scp_spec.proofs.closures.closures_are_least.Goals as goal

pub returns : goal.returns
returns c = closures_least
