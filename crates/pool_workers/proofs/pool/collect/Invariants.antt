use Rattle.std.proofs.Common.{◌≡◌, ◌≤◌, ◌+◌, ◌++◌, take, drop, map, vec_len, vec_capacity}
use Rattle.pool_workers.specs.Sums.{at_rest, passes_of}
use Rattle.pool_workers.proofs.pool.collect.Given as goal

abbrev pub invariant-loop-worker : goal.invariant-loop-worker
invariant-loop-worker g l =
    (l.workers ≡ map at_rest (take l.worker-index l.initial.workers) ++ drop l.worker-index l.initial.workers)
    × (l.passes.items ≡ l.initial.passes.items ++ passes_of (take l.worker-index l.initial.workers))
    × (vec_len l.passes ≤ vec_len l.initial.passes + l.worker-index)
    × (vec_capacity l.passes ≡ vec_capacity l.initial.passes)
