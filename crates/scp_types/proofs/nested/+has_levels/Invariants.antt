use Rattle.std.proofs.Common.{◌≡◌, drop}
use Rattle.scp_types.specs.Shape.{members_of}
use Rattle.scp_types.specs.Trees.{has_levels}
use Rattle.scp_types.proofs.nested.+has_levels.Given as goal

abbrev pub decreases-has_levels : goal.decreases-has_levels
decreases-has_levels l = l.levels

abbrev pub invariant-loop-member : goal.invariant-loop-member
invariant-loop-member l = record {
  shape : members_of l.members ≡ l.set.members;
  rest : has_levels l.levels (members_of (drop l.member-index l.members)) ≡ has_levels l.levels l.set.members;
}
