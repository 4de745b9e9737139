use Rattle.std.proofs.Common.{◌≡◌, ◌++◌, drop, length, take}
use Rattle.std.specs.List.{AllByRecursion}
use Rattle.scp_types.specs.Shape.{members_of}
use Rattle.scp_types.specs.Trees.{names_in, IsName}
use Rattle.scp_types.proofs.nested.+push_names.Given as goal

abbrev pub decreases-push_names : goal.decreases-push_names
decreases-push_names l = goal.size-push_names l

abbrev pub invariant-loop-member : goal.invariant-loop-member
invariant-loop-member l = record {
  shape : members_of l.members ≡ l.set.members;
  pushed : l.names.items ++ names_in (members_of (drop l.member-index l.members)) ≡ l.fn.names.items ++ names_in l.set.members;
  kept : take (length l.fn.names.items) l.names.items ≡ l.fn.names.items;
  fit : AllByRecursion IsName (names_in (members_of (drop l.member-index l.members))) → AllByRecursion IsName (names_in l.set.members);
}
