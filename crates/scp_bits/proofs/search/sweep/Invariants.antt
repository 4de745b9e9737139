use Rattle.scp_bits.proofs.Sweeps.{Swept}
use Rattle.scp_bits.proofs.search.sweep.Given as goal

abbrev pub invariant-loop-place : goal.invariant-loop-place
invariant-loop-place l = Swept l.compiled l.place l.fn.left l.left l.changed l.answers
