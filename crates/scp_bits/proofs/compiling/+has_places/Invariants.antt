use Rattle.std.proofs.Common.{◌≡◌, drop}
use Rattle.scp_types.specs.Shape.{members_of}
use Rattle.scp_types.specs.Trees.{names_in}
use Rattle.scp_spec.specs.Sets.{among, within}
use Rattle.scp_bits.proofs.compiling.+has_places.Given as goal

abbrev pub decreases-has_places : goal.decreases-has_places
decreases-has_places l = goal.size-has_places l

abbrev pub invariant-loop-member : goal.invariant-loop-member
invariant-loop-member l = record {
  shape : members_of l.members ≡ l.set.members;
  rest : within (names_in (members_of (drop l.member-index l.members))) (among l.nodes) ≡ within (names_in l.set.members) (among l.nodes);
}
