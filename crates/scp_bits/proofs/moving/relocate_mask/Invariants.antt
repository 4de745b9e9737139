use Rattle.std.proofs.Common.{◌≡◌, ◌+◌, ◌*◌, ◌-◌, ◌^◌, ◌<◌, ◌≤◌, ℕ, List, bit_and, count_ones}
use Rattle.scp_bits.specs.Moving.{IsBefore}
use Rattle.scp_bits.specs.Places.{count_in, ones_at, places_in}
use Rattle.scp_bits.proofs.Tallies.{word_from}
use Rattle.scp_bits.proofs.moving.relocate_mask.Given as goal

abbrev pub invariant-loop-rest : goal.invariant-loop-rest
invariant-loop-rest l = record {
  first : l.first ≡ l.mask.index * 64;
  low : l.rest < 2 ^ (64 - l.bit);
  so_far : (ws vs : List ℕ) → IsBefore l.places ws vs → places_in l.moved.items vs + count_ones (bit_and l.rest (word_from ws l.mask.index l.bit)) ≡ places_in l.initial.moved.items vs + ones_at l.mask ws;
  count : count_in l.moved.items + count_ones l.rest ≤ count_in l.initial.moved.items + count_ones l.mask.bits;
}

abbrev pub decreases-loop-rest : goal.decreases-loop-rest
decreases-loop-rest l = l.rest
