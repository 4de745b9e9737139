use Rattle.scp_spec.proofs.Reach.Stays.{stays_with_first_rows, stays_with_same_slices, stays_with_strangers}
use Rattle.scp_spec.proofs.closures.reach_stays.Goals as goal

pub returns-clause-slices : goal.returns-clause-slices
returns-clause-slices c = stays_with_same_slices

pub returns-clause-strangers : goal.returns-clause-strangers
returns-clause-strangers c = stays_with_strangers

pub returns-clause-first_rows : goal.returns-clause-first_rows
returns-clause-first_rows c = stays_with_first_rows
