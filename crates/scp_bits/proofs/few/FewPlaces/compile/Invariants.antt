use Rattle.std.proofs.Common.{◌≡◌, ℕ, ◌+◌, List, drop, false}
use Rattle.scp_types.specs.Shape.{members_of}
use Rattle.scp_types.specs.Trees.{names_in}
use Rattle.scp_spec.specs.Sets.{among, within}
use Rattle.scp_bits.specs.Few.{masks_from}
use Rattle.scp_bits.specs.Met.{nodes_at}
use Rattle.scp_bits.specs.Places.{places_in}
use Rattle.scp_bits.proofs.MembersMet.{members_met}
use Rattle.scp_bits.proofs.few.FewPlaces.compile.Given as goal

abbrev pub invariant-loop-member : goal.invariant-loop-member
invariant-loop-member l = record {
  shape : members_of l.members ≡ l.set.members;
  rest : within (names_in (members_of (drop l.member-index l.members))) (among l.nodes) ≡ within (names_in l.set.members) (among l.nodes);
  so_far : (ws : List ℕ) → places_in (masks_from 0 l.words) ws
      + members_met false (members_of (drop l.member-index l.members)) (among (nodes_at l.nodes ws))
      ≡ members_met false l.set.members (among (nodes_at l.nodes ws));
}
