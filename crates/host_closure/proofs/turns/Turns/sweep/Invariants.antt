use Rattle.std.proofs.Common.{ℕ, suc, ◌-◌, ◌≤◌, length}
use Rattle.host_closure.specs.Announcing.{AreMembersAt, member_names}
use Rattle.host_closure.specs.Turns.{IsReady}
use Rattle.host_closure.proofs.Growing.{IsSweeping}
use Rattle.host_closure.proofs.ClosureSteps.{all_given}
use Rattle.host_closure.proofs.turns.Turns.sweep.Given as goal

abbrev pub invariant-loop-place : goal.invariant-loop-place
invariant-loop-place g l =
    IsSweeping (g.J.Announcements.nodes l.self.journal.now) l.self.slot (g.J.Announcements.entries l.self.journal.now) l.initial.members l.members l.place
    × IsReady (g.J.Announcements.nodes l.self.journal.now) l.self.slot (g.J.Announcements.entries l.self.journal.now) (member_names l.members) l.ready
    × (l.place ≤ length l.ready)
    × ((v : ℕ) → AreMembersAt (g.J.Announcements.nodes l.self.journal.now) l.self.slot v (g.J.Announcements.entries l.self.journal.now) 0 l.initial.members
    → AreMembersAt (g.J.Announcements.nodes l.self.journal.now) l.self.slot v (g.J.Announcements.entries l.self.journal.now) l.place l.members)

abbrev pub decreases-loop-place : goal.decreases-loop-place
decreases-loop-place g l = suc (length (all_given (g.J.Announcements.nodes l.self.journal.now) l.self.slot (g.J.Announcements.entries l.self.journal.now))) - l.place
