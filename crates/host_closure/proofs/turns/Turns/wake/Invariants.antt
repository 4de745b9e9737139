use Rattle.host_closure.specs.Announcing.{member_names}
use Rattle.host_closure.proofs.Waking.{IsWaking}
use Rattle.host_closure.proofs.Walking.{steps_left}
use Rattle.host_closure.proofs.turns.Turns.wake.Given as goal

abbrev pub invariant-loop-next : goal.invariant-loop-next
invariant-loop-next g l = IsWaking l.self.slot (g.J.Announcements.entries l.self.journal.now) (member_names l.members) l.receiver l.initial.ready l.next l.ready

abbrev pub decreases-loop-next : goal.decreases-loop-next
decreases-loop-next g l = steps_left l.next
