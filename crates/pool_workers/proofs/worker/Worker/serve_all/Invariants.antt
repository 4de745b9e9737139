use Rattle.std.proofs.Common.{◌≡◌, ◌+◌, ℕ, List, vec_len}
use Rattle.pool_queue.specs.declared.rule.Job.{Job}
use Rattle.pool_queue.specs.Hands.{weigh}
use Rattle.pool_workers.specs.Sums.{IsReadyWorker, KeepsSums}
use Rattle.pool_workers.proofs.worker.Worker.serve_all.Given as goal

abbrev pub invariant-loop-job : goal.invariant-loop-job
invariant-loop-job g l =
    IsReadyWorker l.workplace.shared.now.cells.items l.workplace.shared.now.queue l.self
    × ((handed : List Job) × ((h : Job → ℕ) → weigh h handed + weigh h l.jobs.items ≡ weigh h l.fn.jobs.items) × KeepsSums l.workplace.shared.now.cells.items handed l.fn.self l.self)

abbrev pub decreases-loop-job : goal.decreases-loop-job
decreases-loop-job g l = vec_len l.jobs
