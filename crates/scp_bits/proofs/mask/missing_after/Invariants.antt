use Rattle.std.proofs.Common.{◌≡◌, ◌-◌, drop}
use Rattle.scp_bits.specs.Places.{places_in}
use Rattle.scp_bits.proofs.mask.missing_after.Given as goal

abbrev pub invariant-loop-mask : goal.invariant-loop-mask
invariant-loop-mask l = l.missing - places_in (drop l.mask-index l.masks) l.places ≡ l.needed - places_in l.masks l.places
