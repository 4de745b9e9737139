use Rattle.std.proofs.Common.{◌≡◌}
use Rattle.tests_threads.proofs.of_archives.Run.put_all.Given as goal

abbrev pub invariant-loop-slot : goal.invariant-loop-slot
invariant-loop-slot g l = l.self ≡ l.fn.self
