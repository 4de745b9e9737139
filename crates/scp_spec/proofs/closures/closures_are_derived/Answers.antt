use Rattle.scp_spec.proofs.Sets.Derived.{closures_derived}
use Rattle.scp_spec.proofs.closures.closures_are_derived.Goals as goal

pub returns : goal.returns
returns c = closures_derived
