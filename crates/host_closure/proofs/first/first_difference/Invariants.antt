use Rattle.std.proofs.Common.{true, take}
use Rattle.std.specs.Fn.{FnReturnsAtPair}
use Rattle.std.specs.List.{AllZip}
use Rattle.host_closure.proofs.first.first_difference.Given as goal

abbrev pub invariant-loop-place : goal.invariant-loop-place
invariant-loop-place g l = AllZip (λ x y. FnReturnsAtPair g.F.Fn l.is_same x y true) (take l.place l.one) (take l.place l.other)
