use Rattle.std.proofs.Common.{◌≡◌, ◌+◌, ◌-◌, drop}
use Rattle.scp_bits.specs.Places.{places_in, sets_of}
use Rattle.scp_bits.specs.Met.{sets_met}
use Rattle.scp_bits.proofs.set.+is_met.Given as goal

abbrev pub decreases-is_met : goal.decreases-is_met
decreases-is_met l = goal.size-is_met l

abbrev pub invariant-loop-inner : goal.invariant-loop-inner
invariant-loop-inner l =
    record {
      shape : sets_of l.sets ≡ l.set.inner;
      so_far : l.missing - sets_met (sets_of (drop l.inner-index l.sets)) l.places ≡ l.set.needed - (places_in l.set.masks l.places + sets_met l.set.inner l.places);
    }
