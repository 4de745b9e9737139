use Rattle.std.proofs.Common.{◌≡◌, ◌++◌}
use Rattle.pool_script.specs.Pooling.{jobs_of, slots_opened}
use Rattle.pool_script.proofs.running.share_out.Given as goal

abbrev pub invariant-loop-network : goal.invariant-loop-network
invariant-loop-network l =
    (l.slots.items ++ slots_opened l.network-iterator.rest.items ≡ slots_opened l.fn.calls.items)
    × (l.jobs.items ++ jobs_of l.network-iterator.rest.items ≡ jobs_of l.fn.calls.items)
