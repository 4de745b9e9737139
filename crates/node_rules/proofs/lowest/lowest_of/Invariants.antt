use Rattle.std.proofs.Common.{filter, length, Some}
use Rattle.scp_voting.specs.Searching.{is_under}
use Rattle.node_rules.proofs.LowestLaws.{IsLeast}
use Rattle.node_rules.proofs.lowest.lowest_of.Given as goal

abbrev pub invariant-loop-next : goal.invariant-loop-next
invariant-loop-next g l = IsLeast (g.C.Candidates.listed l.candidates l.mention) (g.T.Check.holds l.test) l.end l.bound l.least

abbrev pub decreases-loop-next : goal.decreases-loop-next
decreases-loop-next g l = length (filter (is_under (Some l.bound)) (g.C.Candidates.listed l.candidates l.mention))
