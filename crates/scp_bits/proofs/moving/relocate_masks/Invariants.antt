use Rattle.std.proofs.Common.{◌≡◌, ◌+◌, ◌≤◌, ℕ, List, drop}
use Rattle.scp_bits.specs.Moving.{IsBefore}
use Rattle.scp_bits.specs.Places.{count_in, places_in}
use Rattle.scp_bits.proofs.moving.relocate_masks.Given as goal

abbrev pub invariant-loop-mask : goal.invariant-loop-mask
invariant-loop-mask l = record {
  so_far : (ws vs : List ℕ) → IsBefore l.places ws vs → places_in l.moved.items vs + places_in (drop l.mask-index l.masks) ws ≡ places_in l.masks ws;
  count : count_in l.moved.items + count_in (drop l.mask-index l.masks) ≤ count_in l.masks;
}
