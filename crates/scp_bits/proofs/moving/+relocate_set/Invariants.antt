use Rattle.std.proofs.Common.{◌≡◌, ◌+◌, ◌≤◌, ℕ, List, drop, length}
use Rattle.scp_bits.specs.Met.{sets_met}
use Rattle.scp_bits.specs.Moving.{IsBefore}
use Rattle.scp_bits.specs.Places.{sets_of}
use Rattle.scp_bits.proofs.moving.+relocate_set.Given as goal

abbrev pub decreases-relocate_set : goal.decreases-relocate_set
decreases-relocate_set l = goal.size-relocate_set l

abbrev pub invariant-loop-each : goal.invariant-loop-each
invariant-loop-each l = record {
  shape : sets_of l.sets ≡ l.set.inner;
  count : length l.inner.items ≤ l.each-index;
  so_far : (ws vs : List ℕ) → IsBefore l.places ws vs → sets_met (sets_of l.inner.items) vs + sets_met (sets_of (drop l.each-index l.sets)) ws ≡ sets_met (sets_of l.sets) ws;
}
