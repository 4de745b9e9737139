use denote.Param.Send.{sendable}
use Rattle.pool_workers.proofs.Pools.{ready_at}
use Rattle.pool_workers.proofs.Crossing.{shared_sync, worker_send}
use Rattle.pool_workers.proofs.pool.start.Goals as goal

pub for_each_mut-requires-send-T : goal.for_each_mut-requires-send-T
for_each_mut-requires-send-T g c κs within = search (sendable, worker_send) depth 20

pub for_each_mut-requires-sync-F : goal.for_each_mut-requires-sync-F
for_each_mut-requires-sync-F g c κs within = search (sendable, shared_sync) depth 40

pub for_each_mut-requires-clause-accepts : goal.for_each_mut-requires-clause-accepts
for_each_mut-requires-clause-accepts g c κs within = λ i p lt at. (c.requires.order, ready_at _ _ c.args.workers.now i p.now c.requires.ready lt at)
