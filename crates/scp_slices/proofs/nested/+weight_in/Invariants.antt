use Rattle.std.proofs.Common.{◌≡◌, drop}
use Rattle.scp_types.specs.Shape.{members_of}
use Rattle.scp_slices.specs.Weighing.{share_in}
use Rattle.scp_slices.proofs.nested.+weight_in.Given as goal

abbrev pub decreases-weight_in : goal.decreases-weight_in
decreases-weight_in l = goal.size-weight_in l

abbrev pub invariant-loop-member : goal.invariant-loop-member
invariant-loop-member l =
    record {
      shape : members_of l.members ≡ l.set.members;
      so_far : share_in (members_of (drop l.member-index l.members)) l.node ≡ share_in l.set.members l.node;
    }
