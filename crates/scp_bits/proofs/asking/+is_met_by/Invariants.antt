use Rattle.std.proofs.Common.{◌≡◌, ℕ, List, drop, length}
use Rattle.std.specs.Prelude.{nat_eq}
use Rattle.scp_bits.specs.Asking.{ArePassing, IsAsked}
use Rattle.scp_bits.specs.Met.{has_needed, sets_met}
use Rattle.scp_bits.specs.Places.{sets_of}
use Rattle.scp_bits.specs.declared.asking.Tally.{Tally}
use Rattle.scp_bits.proofs.asking.+is_met_by.Given as goal

abbrev pub decreases-is_met_by : goal.decreases-is_met_by
decreases-is_met_by g l = goal.size-is_met_by g l

abbrev pub invariant-loop-inner : goal.invariant-loop-inner
invariant-loop-inner g l = record {
  shape : sets_of l.sets ≡ l.set.inner;
  so_far : (ws : List ℕ) → ArePassing (g.P.Passing.passing l.who) ws → (t : Tally)
      → IsAsked (sets_met (sets_of (drop l.inner-index l.sets)) ws) (length (drop l.inner-index l.sets)) l.tally t → nat_eq t.missing 0 ≡ has_needed l.set ws;
}
