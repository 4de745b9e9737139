use Rattle.std.proofs.Common.{suc, ◌-◌, length}
use Rattle.host_closure.specs.Announcing.{AreMembersAt, member_names}
use Rattle.host_closure.specs.Turns.{IsReady}
use Rattle.host_closure.proofs.ClosureSteps.{all_given}
use Rattle.host_closure.proofs.Growing.{IsSwept}
use Rattle.host_closure.proofs.turns.Turns.closure_of.Given as goal

abbrev pub invariant-loop-known : goal.invariant-loop-known
invariant-loop-known g l =
    IsSwept (g.J.Announcements.nodes l.self.journal.now) l.self.slot l.node (g.J.Announcements.entries l.self.journal.now) l.members l.known
    × IsReady (g.J.Announcements.nodes l.self.journal.now) l.self.slot (g.J.Announcements.entries l.self.journal.now) (member_names l.members) l.ready
    × AreMembersAt (g.J.Announcements.nodes l.self.journal.now) l.self.slot l.node (g.J.Announcements.entries l.self.journal.now) 0 l.members

abbrev pub decreases-loop-known : goal.decreases-loop-known
decreases-loop-known g l = suc (length (all_given (g.J.Announcements.nodes l.self.journal.now) l.self.slot (g.J.Announcements.entries l.self.journal.now))) - l.known
