use Rattle.std.proofs.Common.{◌≡◌, ◌+◌, ℕ, List, drop, length}
use Rattle.scp_bits.specs.Few.{masks_from}
use Rattle.scp_bits.specs.Places.{places_in}
use Rattle.scp_bits.proofs.few.words_of.Given as goal

abbrev pub invariant-loop-mask : goal.invariant-loop-mask
invariant-loop-mask l = record {
  four : length l.words ≡ 4;
  so_far : (ws : List ℕ) → places_in (masks_from 0 l.words) ws + places_in (drop l.mask-index l.masks) ws ≡ places_in l.masks ws;
}
