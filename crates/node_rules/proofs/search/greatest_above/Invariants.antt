use Rattle.std.proofs.Common.{filter, length}
use Rattle.scp_voting.specs.Searching.{is_under}
use Rattle.node_rules.proofs.SearchLaws.{Tried}
use Rattle.node_rules.proofs.search.greatest_above.Given as goal

abbrev pub invariant-loop-next : goal.invariant-loop-next
invariant-loop-next g l = Tried (g.C.Candidates.listed l.candidates l.mention) (g.T.Check.holds l.test) l.bound

abbrev pub decreases-loop-next : goal.decreases-loop-next
decreases-loop-next g l = length (filter (is_under l.bound) (g.C.Candidates.listed l.candidates l.mention))
