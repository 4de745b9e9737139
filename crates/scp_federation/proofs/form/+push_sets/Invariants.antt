use Rattle.std.proofs.Common.{◌≡◌, ◌+◌, ◌<◌, [], ◌∷◌, ◌++◌, length, drop}
use Rattle.scp_types.specs.Shape.{members_of}
use Rattle.scp_federation.specs.Numbers.{flat_members, flat_levels}
use Rattle.scp_federation.proofs.form.+push_sets.Given as goal

abbrev pub decreases-push_sets : goal.decreases-push_sets
decreases-push_sets l = goal.size-push_sets l

abbrev pub invariant-loop-member : goal.invariant-loop-member
invariant-loop-member l = record {
  shape : members_of l.tree ≡ l.set.members;
  number : l.number ≡ length l.fn.sets.items;
  room : l.number < length l.sets.items;
  numbers : l.members.items ++ flat_members l.names (length l.sets.items) (members_of (drop l.member-index l.tree))
      ≡ flat_members l.names (l.number + 1) l.set.members;
  pushed : l.sets.items ++ flat_levels l.names (length l.sets.items) (members_of (drop l.member-index l.tree))
      ≡ l.fn.sets.items ++ record { threshold = l.set.threshold; members = [] } ∷ flat_levels l.names (l.number + 1) l.set.members;
}
