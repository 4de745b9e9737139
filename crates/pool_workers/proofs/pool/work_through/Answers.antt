use Rattle.std.proofs.Common.{◌<◌, ◌+◌, ◌∙◌, ap, subst}
use Rattle.pool_queue.specs.Queues.{parts_by}
use Rattle.pool_workers.proofs.Pools.{closed_after}
use Rattle.pool_workers.proofs.Sums.{summed}
use Rattle.pool_workers.proofs.pool.work_through.Goals as goal

pub finish-requires-clause-ready : goal.finish-requires-clause-ready
finish-requires-clause-ready g c = λ i d lt. (c.start.ensures.through i d (subst (λ n. i < n) c.start.ensures.len lt)).ready

pub finish-requires-clause-queue : goal.finish-requires-clause-queue
finish-requires-clause-queue g c =
    (c.requires.queue.0, ap (λ n. parts_by c.args.passes.items + n) (summed _ _ _ _ c.start.ensures.len c.start.ensures.through).parts ∙ c.requires.queue.1)

pub returns-clause-closed : goal.returns-clause-closed
returns-clause-closed g c = closed_after c.args.shared.now.cells.items c.args.passes.items c.args.workers.now c.start.new.workers c.finish.new.workers (summed _ _ _ _ c.start.ensures.len c.start.ensures.through) c.finish.ensures.closed
