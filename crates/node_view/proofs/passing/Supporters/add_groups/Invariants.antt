use Rattle.std.proofs.Common.{length}
use Rattle.scp_voting.specs.Questions.{asks}
use Rattle.node_view.specs.Watching.{passes_at}
use Rattle.node_view.proofs.GroupLaws.{HasFirst}
use Rattle.node_view.proofs.passing.Supporters.add_groups.Given as goal

abbrev pub invariant-loop-group : goal.invariant-loop-group
invariant-loop-group g l = HasFirst (passes_at l.self.rows.now l.self.own_place l.self.own_passes (asks l.self.question.now)) (length l.self.rows.now.nodes) l.group-index l.groups l.places
