use Rattle.std.proofs.Common.{◌≡◌, ◌+◌, ◌≤◌, length, drop}
use Rattle.scp_types.specs.Shape.{members_of}
use Rattle.scp_spec.specs.Sets.{among}
use Rattle.scp_spec.specs.Satisfaction.{blocked_count}
use Rattle.scp_slices.proofs.nested.+count_blocked.Given as goal

abbrev pub decreases-count_blocked : goal.decreases-count_blocked
decreases-count_blocked l = goal.size-count_blocked l

abbrev pub invariant-loop-member : goal.invariant-loop-member
invariant-loop-member l =
    record {
      shape : members_of l.members ≡ l.set.members;
      so_far : l.count + blocked_count (members_of (drop l.member-index l.members)) (among l.nodes) ≡ blocked_count l.set.members (among l.nodes);
      few : (l.member-index ≤ length l.members) × (l.count ≤ l.member-index);
    }
