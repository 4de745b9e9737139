use Rattle.std.proofs.Common.{◌≡◌, length, take}
use Rattle.host_closure.specs.Announcing.{member_names}
use Rattle.host_closure.specs.Turns.{AreCovered}
use Rattle.host_closure.proofs.Growing.{IsJoining}
use Rattle.host_closure.proofs.Ordering.{IsTurning}
use Rattle.host_closure.proofs.turns.Turns.take.Given as goal

abbrev pub invariant-loop-name : goal.invariant-loop-name
invariant-loop-name g l =
    IsJoining (g.J.Announcements.nodes l.self.journal.now) l.self.slot (g.J.Announcements.entries l.self.journal.now) l.name-items l.initial.members l.members l.name-index
    × AreCovered (g.J.Announcements.nodes l.self.journal.now) l.self.slot (g.J.Announcements.entries l.self.journal.now) (member_names l.members) l.ready l.place l.name-items
    × (length l.ready ≡ length l.initial.ready)
    × IsTurning l.place l.initial.members l.members (take l.name-index l.name-items)
