use Rattle.std.proofs.Common.{◌≡◌, ℕ, ◌+◌, ◌≤◌, List, drop, length}
use Rattle.scp_types.specs.Shape.{members_of}
use Rattle.scp_spec.specs.Sets.{among}
use Rattle.scp_bits.specs.Places.{count_in, places_in, sets_of}
use Rattle.scp_bits.specs.Met.{sets_met, nodes_at}
use Rattle.scp_bits.proofs.MembersMet.{members_met}
use Rattle.scp_bits.proofs.compiling.+compile.Given as goal

abbrev pub decreases-compile : goal.decreases-compile
decreases-compile l = goal.size-compile l

abbrev pub invariant-loop-member : goal.invariant-loop-member
invariant-loop-member l =
    record {
      shape : members_of l.members ≡ l.set.members;
      count : count_in l.masks.items + length l.inner.items ≤ l.member-index;
      so_far : (ws : List ℕ) → places_in l.masks.items ws + sets_met (sets_of l.inner.items) ws
          + members_met l.blocking (members_of (drop l.member-index l.members)) (among (nodes_at l.nodes ws))
          ≡ members_met l.blocking l.set.members (among (nodes_at l.nodes ws));
    }
