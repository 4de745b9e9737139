use Rattle.scp_federation.proofs.SameAnswers.{accepted_alike, confirmed_alike}
use Rattle.scp_federation.proofs.alike.general_voting_is_seen_voting.Goals as goal

pub returns-clause-accepted : goal.returns-clause-accepted
returns-clause-accepted c = accepted_alike

pub returns-clause-confirmed : goal.returns-clause-confirmed
returns-clause-confirmed c = confirmed_alike
