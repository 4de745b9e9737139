use Rattle.std.proofs.Common.{◌≡◌, length, take}
use Rattle.scp_bits.specs.Places.{sets_of, weight_of_sets}
use Rattle.scp_bits.proofs.set.+is_same.Given as goal

abbrev pub decreases-is_same : goal.decreases-is_same
decreases-is_same l = weight_of_sets l.set.now.inner

abbrev pub invariant-loop-place : goal.invariant-loop-place
invariant-loop-place l =
    record {
      shape : sets_of l.sets ≡ l.set.inner;
      others : sets_of l.others ≡ l.other.inner;
      as_many : length l.sets ≡ length l.others;
      same : take l.place l.sets ≡ take l.place l.others;
    }
