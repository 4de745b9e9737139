use Rattle.std.proofs.Common.{◌≡◌, ◌-◌, ◌++◌, length, drop, map}
use Rattle.scp_federation.specs.Numbers.{member_by, set_at}
use Rattle.scp_federation.proofs.form.+tree_of.Given as goal

abbrev pub decreases-tree_of : goal.decreases-tree_of
decreases-tree_of l = length l.sets.now - l.number

abbrev pub invariant-loop-member : goal.invariant-loop-member
invariant-loop-member l =
    l.members.items ++ map (member_by l.names (set_at l.names l.sets)) (drop l.member-index l.flat) ≡ map (member_by l.names (set_at l.names l.sets)) l.flat
