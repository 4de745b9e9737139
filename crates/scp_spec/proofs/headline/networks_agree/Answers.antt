use Rattle.scp_spec.proofs.Runs.Agreements.{new_networks_agree, other_steps_leave, runs_stay_closed_in, stays_closed_in, steps_agree}
use Rattle.scp_spec.proofs.headline.networks_agree.Goals as goal

pub returns-clause-new : goal.returns-clause-new
returns-clause-new c = new_networks_agree

pub returns-clause-runs : goal.returns-clause-runs
returns-clause-runs c = runs_stay_closed_in

pub returns-clause-steps : goal.returns-clause-steps
returns-clause-steps c = steps_agree

pub returns-clause-others : goal.returns-clause-others
returns-clause-others c = other_steps_leave

pub returns-clause-closed : goal.returns-clause-closed
returns-clause-closed c = stays_closed_in
