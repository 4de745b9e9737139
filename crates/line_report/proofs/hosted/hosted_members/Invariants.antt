use Rattle.std.proofs.Common.{take}
use Rattle.scp_spec.specs.Sets.{among}
use Rattle.host_closure.specs.Announcing.{slices_then}
use Rattle.line_report.proofs.Hosting.{AreFound}
use Rattle.line_report.proofs.hosted.hosted_members.Given as goal

abbrev pub invariant-loop-node : goal.invariant-loop-node
invariant-loop-node g l = AreFound (slices_then (g.J.Announcements.nodes l.journal) l.slot (g.J.Announcements.entries l.journal)) (among l.names) (take l.node-index l.names) l.hosted.items
