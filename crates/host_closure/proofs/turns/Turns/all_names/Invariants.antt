use Rattle.host_closure.specs.Announcing.{member_names}
use Rattle.host_closure.proofs.Gathering.{IsGathered}
use Rattle.host_closure.proofs.Walking.{steps_left}
use Rattle.host_closure.proofs.turns.Turns.all_names.Given as goal

abbrev pub invariant-loop-next : goal.invariant-loop-next
invariant-loop-next g l = IsGathered (g.J.Announcements.nodes l.self.journal.now) l.self.slot (g.J.Announcements.entries l.self.journal.now) (member_names l.members) l.node l.next l.names.items

abbrev pub decreases-loop-next : goal.decreases-loop-next
decreases-loop-next g l = steps_left l.next
