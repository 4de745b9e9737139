-- One member of a set: a name or an inner set.
use Rattle.std.specs.Prelude.{ℕ, List, [], ◌∷◌, ◌⊎◌}
use Rattle.std.proofs.Common.{inl, inr}
use Rattle.scp_types.specs.Trees.{Members, node, inner, Slices, names_in}
use Rattle.scp_types.specs.declared.nested.Member.{Member}
use Rattle.scp_types.specs.declared.nested.Member.TheVariants.{Node, Set}

-- a name or an inner set
abbrev pub Part : Type 0
Part = ℕ ⊎ Slices

-- a member in memory, as a name or an inner set of the definitions
abbrev pub part_of_member : Member → Part
part_of_member (Node u) = inl u
part_of_member (Set s) = inr s

-- the names in a member
abbrev pub part_names : Part → List ℕ
part_names (inl u) = u ∷ []
part_names (inr q) = names_in q.members

-- a member before others
abbrev pub part_before : Part → Members → Members
part_before (inl u) rest = node u rest
part_before (inr q) rest = inner q.threshold q.members rest
