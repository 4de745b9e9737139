use Rattle.std.proofs.Common.{take}
use Rattle.pool_workers.specs.Sums.{IsBusy, KeepsSums, hears_of}
use Rattle.pool_workers.proofs.worker.Worker.let_others_hear.Given as goal

abbrev pub invariant-loop-hosted : goal.invariant-loop-hosted
invariant-loop-hosted g l =
    IsBusy l.workplace.shared.now.cells.items l.workplace.shared.now.queue l.k l.self
    × KeepsSums l.workplace.shared.now.cells.items (hears_of l.emission (take l.hosted-index l.nodes)) l.fn.self l.self
