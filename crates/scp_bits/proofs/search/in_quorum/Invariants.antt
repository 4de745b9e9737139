use Rattle.std.proofs.Common.{ℕ, List, Option, length}
use Rattle.scp_types.specs.Trees.{Slices}
use Rattle.scp_spec.specs.Sets.{IsAscending, among}
use Rattle.scp_bits.specs.Met.{nodes_at}
use Rattle.scp_bits.specs.Searching.{AreCompiled, IsLeft, live}
use Rattle.scp_bits.proofs.search.in_quorum.Given as goal

abbrev pub invariant-loop-place : goal.invariant-loop-place
invariant-loop-place l = (us : List ℕ) (slices_at : ℕ → Option Slices) → IsAscending us → AreCompiled us slices_at l.compiled
    → IsLeft slices_at (among (nodes_at us l.fn.left)) (among (nodes_at us l.left))

abbrev pub decreases-loop-place : goal.decreases-loop-place
decreases-loop-place l = live (length l.compiled) l.left
