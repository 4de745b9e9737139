use Rattle.scp_voting.proofs.SeenVotes.{accepted_by_rows, confirmed_by_rows}
use Rattle.scp_voting.proofs.seeing.seen_voting_is_by_rows.Goals as goal

pub returns-clause-accepted : goal.returns-clause-accepted
returns-clause-accepted c = accepted_by_rows

pub returns-clause-confirmed : goal.returns-clause-confirmed
returns-clause-confirmed c = confirmed_by_rows
