use Rattle.std.proofs.Common.{◌≡◌, ◌++◌, List, vec_len}
use Rattle.std.specs.Prelude.{reverse}
use Rattle.crossbeam_queue.specs.Passes.{view}
use Rattle.pool_queue.specs.Queues.{IsOf}
use Rattle.pool_queue.specs.declared.rule.Job.{Job}
use Rattle.pool_workers.proofs.running.offer.Given as goal

abbrev pub invariant-loop-job : goal.invariant-loop-job
invariant-loop-job g l =
    IsOf l.queue l.pass
    × ((view l.pass).parts ≡ (view l.fn.pass).parts)
    × ((view l.pass).taken ≡ (view l.fn.pass).taken)
    × ((put : List Job) × (l.fn.jobs.items ≡ l.jobs.items ++ reverse put) × ((view l.pass).put ≡ (view l.fn.pass).put ++ put))

abbrev pub decreases-loop-job : goal.decreases-loop-job
decreases-loop-job g l = vec_len l.jobs
