use Rattle.std.proofs.Common.{◌≡◌, take}
use Rattle.host_closure.specs.Announcing.{member_names}
use Rattle.host_closure.specs.Turns.{all_added}
use Rattle.host_closure.proofs.turns.Turns.names_at.Given as goal

abbrev pub invariant-loop-number : goal.invariant-loop-number
invariant-loop-number g l = l.names.items ≡ all_added l.self.slot (g.J.Announcements.entries l.self.journal.now) (member_names l.members) l.node (take l.number-index l.numbers)
