use Rattle.std.proofs.Common.{true, false, take}
use Rattle.std.specs.Fn.{FnReturnsAt}
use Rattle.host_closure.specs.Announcing.{member_names}
use Rattle.host_closure.proofs.LeastNames.{IsLeastSoFar}
use Rattle.host_closure.proofs.least.least_failing.Given as goal

abbrev pub invariant-loop-place : goal.invariant-loop-place
invariant-loop-place g l = IsLeastSoFar (λ u. FnReturnsAt g.F.Fn l.test u false) (λ u. FnReturnsAt g.F.Fn l.test u true) (take l.place (member_names l.members)) l.least
