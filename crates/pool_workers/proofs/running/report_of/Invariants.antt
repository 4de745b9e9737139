use Rattle.std.proofs.Common.{◌≡◌, take}
use Rattle.pool_queue.specs.Hands.{weigh}
use Rattle.pool_workers.specs.Sums.{applied_count, refused_count}
use Rattle.pool_workers.proofs.running.report_of.Given as goal

abbrev pub invariant-loop-worker : goal.invariant-loop-worker
invariant-loop-worker g l = (l.applied ≡ weigh applied_count (take l.worker-index l.workers)) × (l.refused ≡ weigh refused_count (take l.worker-index l.workers))
