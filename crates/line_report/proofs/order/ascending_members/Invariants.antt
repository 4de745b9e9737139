use Rattle.std.proofs.Common.{◌≡◌, take}
use Rattle.host_closure.specs.Announcing.{member_names}
use Rattle.line_report.proofs.order.ascending_members.Given as goal

abbrev pub invariant-loop-place : goal.invariant-loop-place
invariant-loop-place l = l.names.items ≡ take l.place (member_names l.members)
