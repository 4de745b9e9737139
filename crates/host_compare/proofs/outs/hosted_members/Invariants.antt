use Rattle.std.proofs.Common.{◌≡◌, take}
use Rattle.scp_spec.specs.Sets.{among}
use Rattle.host_closure.specs.Announcing.{member_names}
use Rattle.host_compare.specs.OutLists.{hosted_in}
use Rattle.host_compare.proofs.outs.hosted_members.Given as goal

abbrev pub invariant-loop-hosted : goal.invariant-loop-hosted
invariant-loop-hosted l = l.names.items ≡ hosted_in (among (member_names l.members)) (take l.hosted-index l.nodes)
