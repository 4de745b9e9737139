use Rattle.std.proofs.Common.{◌≡◌, true, drop}
use Rattle.scp_types.specs.Shape.{members_of}
use Rattle.scp_types.specs.Trees.{has_threshold, is_shaped}
use Rattle.scp_types.proofs.nested.+keeps_shape.Given as goal

abbrev pub decreases-keeps_shape : goal.decreases-keeps_shape
decreases-keeps_shape l = l.levels

abbrev pub invariant-loop-member : goal.invariant-loop-member
invariant-loop-member l = record {
  shape : members_of l.members ≡ l.set.members;
  outer : has_threshold l.set.threshold l.set.members ≡ true;
  rest : is_shaped l.levels (members_of (drop l.member-index l.members)) ≡ is_shaped l.levels l.set.members;
}
