use Rattle.scp_spec.specs.Candidates.{named_ballots}
use Rattle.node_rules.proofs.first.greatest_with_prepare_accepted.Goals as goal

pub returns : goal.returns
unfolding named_ballots
returns g c = simp c.in_ok-own.ensures at c.greatest_of.ensures
