use Rattle.std.proofs.Common.{[]}
use Rattle.pool_workers.specs.Sums.{IsBusy, KeepsSums}
use Rattle.pool_workers.proofs.worker.Worker.follow_receipts.Given as goal

abbrev pub invariant-loop : goal.invariant-loop
invariant-loop g l = IsBusy l.workplace.shared.now.cells.items l.workplace.shared.now.queue l.k l.self × KeepsSums l.workplace.shared.now.cells.items [] l.fn.self l.self
