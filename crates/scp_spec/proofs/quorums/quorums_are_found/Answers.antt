use Rattle.scp_spec.proofs.Slices.Quorums.{quorums_found}
use Rattle.scp_spec.proofs.quorums.quorums_are_found.Goals as goal

pub returns : goal.returns
returns c = quorums_found
