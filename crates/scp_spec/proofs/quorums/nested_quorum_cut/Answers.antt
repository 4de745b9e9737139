use Rattle.scp_spec.proofs.Slices.Quorums.{nested_cut}
use Rattle.scp_spec.proofs.quorums.nested_quorum_cut.Goals as goal

pub returns : goal.returns
returns c = nested_cut
