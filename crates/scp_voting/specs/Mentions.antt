-- The ways in which a statement speaks of a ballot: it names it, or it speaks of commit at its counter.
use Rattle.std.specs.Prelude.{List, ◌++◌, filter, flat_map, option_to_list}
use Rattle.scp_types.specs.declared.ballot.Ballot.{Ballot}
use Rattle.scp_types.specs.declared.statement.Statement.{Statement}
use Rattle.scp_spec.specs.Candidates.{committed_by, has_positive_counter, named_by}
use Rattle.scp_voting.specs.declared.mention.Mention.{Mention}
use Rattle.scp_voting.specs.declared.mention.Mention.TheVariants.{Committed, Named}
use Rattle.scp_voting.specs.declared.mention.StatementBallots.{StatementBallots}

-- the ballots of which a statement speaks in one way: that it names them, or that it speaks of commit at their counters
abbrev pub mentioned_by : Mention → Statement → List Ballot
mentioned_by Named = named_by
mentioned_by Committed = committed_by

-- the ballots of which several statements speak in one way, with counters from 1 on
abbrev pub mentioned_in : Mention → List Statement → List Ballot
mentioned_in mention statements = filter has_positive_counter (flat_map (mentioned_by mention) statements)

-- the ballots of one statement that are handed out one by one, in order
abbrev pub ballots_of : StatementBallots → List Ballot
ballots_of b = option_to_list b.first ++ option_to_list b.second ++ option_to_list b.third
