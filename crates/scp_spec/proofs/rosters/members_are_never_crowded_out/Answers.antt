use Rattle.scp_spec.proofs.Crowds.Members.{never_crowded_out, never_crowded_out_of_runs}
use Rattle.scp_spec.proofs.rosters.members_are_never_crowded_out.Goals as goal

pub returns-clause-histories : goal.returns-clause-histories
returns-clause-histories c = never_crowded_out

pub returns-clause-runs : goal.returns-clause-runs
returns-clause-runs c = never_crowded_out_of_runs
