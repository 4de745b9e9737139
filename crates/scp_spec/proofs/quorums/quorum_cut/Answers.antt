use Rattle.scp_spec.proofs.Slices.Quorums.{cuts}
use Rattle.scp_spec.proofs.quorums.quorum_cut.Goals as goal

pub returns : goal.returns
returns g c = cuts _
