use Rattle.std.proofs.Common.{◌≡◌, take}
use Rattle.scp_bits.specs.Places.{sets_of}
use Rattle.scp_bits.proofs.set.+copy_of_set.Given as goal

abbrev pub decreases-copy_of_set : goal.decreases-copy_of_set
decreases-copy_of_set l = goal.size-copy_of_set l

abbrev pub invariant-loop-each : goal.invariant-loop-each
invariant-loop-each l = record { shape : sets_of l.sets ≡ l.set.inner; copied : l.inner.items ≡ take l.each-index l.sets }
