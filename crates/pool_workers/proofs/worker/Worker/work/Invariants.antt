use Rattle.std.proofs.Common.{[]}
use Rattle.pool_workers.specs.Sums.{KeepsSums, IsReadyWorker}
use Rattle.pool_workers.proofs.worker.Worker.work.Given as goal

abbrev pub invariant-loop : goal.invariant-loop
invariant-loop g l = IsReadyWorker l.workplace.shared.now.cells.items l.workplace.shared.now.queue l.self × KeepsSums l.workplace.shared.now.cells.items [] l.fn.self l.self
