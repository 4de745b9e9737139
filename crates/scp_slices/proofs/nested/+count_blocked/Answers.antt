use Rattle.std.proofs.Common.{ap, arith}
use Rattle.scp_types.specs.Trees.{weight_of}
use Rattle.scp_types.proofs.Weights.{inner_weighs_less}
use Rattle.scp_slices.proofs.nested.+count_blocked.Goals as goal

pub count_blocked-requires : goal.count_blocked-requires
count_blocked-requires t c =
    let w = inner_weighs_less c.members-members.result.now c.loop-member.member-index c.member-item.result c.in-Set.inner c.loop-member-test.true c.member-item.is c.in-Set.is in
    let e = ap weight_of c.members-members.ensures in
    (omega (arith, w, e, c.decreases), c.requires)
