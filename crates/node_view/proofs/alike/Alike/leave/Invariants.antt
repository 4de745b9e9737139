use Rattle.node_view.proofs.GroupLaws.{LeftTo}
use Rattle.node_view.proofs.alike.Alike.leave.Given as goal

abbrev pub invariant-loop-group : goal.invariant-loop-group
invariant-loop-group l = LeftTo l.place l.group-index l.fn.self.groups.items l.group-items
