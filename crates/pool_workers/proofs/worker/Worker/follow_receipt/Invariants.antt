use Rattle.std.proofs.Common.{◌≡◌, ◌≤◌, ◌++◌, List, drop}
use Rattle.pool_queue.specs.declared.rule.Job.{Job}
use Rattle.pool_workers.specs.Sums.{IsBusy, KeepsSums, hears, hears_of_outs}
use Rattle.pool_workers.proofs.worker.Worker.follow_receipt.Given as goal

abbrev pub invariant-loop-index : goal.invariant-loop-index
invariant-loop-index g l =
    IsBusy l.workplace.shared.now.cells.items l.workplace.shared.now.queue l.k l.self
    × (l.mark ≤ l.index)
    × ((handed : List Job) × (handed ++ hears_of_outs l.config (drop l.index l.receipt.outs) (drop l.mark l.receipt.marks) ≡ hears l.config l.receipt) × KeepsSums l.workplace.shared.now.cells.items handed l.fn.self l.self)
