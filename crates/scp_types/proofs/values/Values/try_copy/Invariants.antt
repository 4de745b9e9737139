use Rattle.std.proofs.Common.{◌≡◌, take}
use Rattle.scp_types.proofs.values.Values.try_copy.Given as goal

abbrev pub invariant-loop-value : goal.invariant-loop-value
invariant-loop-value l = record { shape : l.values ≡ l.self; copied : l.copy ≡ take l.value-index l.values }
