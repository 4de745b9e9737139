use Rattle.std.proofs.Common.{◌≡◌, ◌-◌, length, drop, map}
use Rattle.scp_types.specs.Shape.{members_of}
use Rattle.scp_federation.specs.Numbers.{member_by, set_at}
use Rattle.scp_slices.specs.Weighing.{share_in}
use Rattle.scp_federation.proofs.form.+weight_at.Given as goal

abbrev pub decreases-weight_at : goal.decreases-weight_at
decreases-weight_at l = length l.sets.now - l.number

abbrev pub invariant-loop-member : goal.invariant-loop-member
invariant-loop-member l =
    share_in (members_of (map (member_by l.names (set_at l.names l.sets)) (drop l.member-index l.members))) l.node
    ≡ share_in (members_of (map (member_by l.names (set_at l.names l.sets)) l.members)) l.node
