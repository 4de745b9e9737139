-- What a set in memory is seen as.
use Rattle.std.specs.Prelude.{List, [], ◌∷◌}
use Rattle.scp_types.specs.Trees.{Members, none, node, inner}
use Rattle.scp_types.specs.declared.nested.Member.{Member}
use Rattle.scp_types.specs.declared.nested.Member.TheVariants.{Node, Set}

-- the members of a set in code, as the definitions have them
abbrev pub members_of : List Member → Members
members_of [] = none
members_of (Node u ∷ rest) = node u (members_of rest)
members_of (Set s ∷ rest) = inner s.threshold s.members (members_of rest)
