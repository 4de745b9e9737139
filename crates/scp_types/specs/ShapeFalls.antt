-- Each inner set weighs less than the set that holds it.
use Rattle.std.specs.Prelude.{◌≤◌, List, [], ◌∷◌}
use Rattle.std.proofs.Common.{arith}
use denote.Param.Weighed.{most}
use Rattle.scp_types.specs.Trees.{weight_of}
use Rattle.scp_types.specs.Shape.{members_of}
use Rattle.scp_types.specs.declared.nested.Member.{Member}
use Rattle.scp_types.specs.declared.nested.Member.TheVariants.{Node, Set}
use Rattle.scp_types.specs.declared.nested.SliceSet.TheDeep.{deep-Member}

-- a law: each inner set weighs less than the set that holds it, so a walk into sets ends
pub most_le : (ms : List Member) → most deep-Member ms ≤ weight_of (members_of ms)
most_le [] = omega arith
most_le (Node u ∷ rest) = omega (arith, most_le rest)
most_le (Set s ∷ rest) = omega (arith, most_le rest)
