use Rattle.std.proofs.Common.{◌≡◌, ◌+◌, ℕ, List, vec_len}
use Rattle.pool_cell.specs.Views.{Knowledge}
use Rattle.pool_workers.specs.Spares.{AllGrownSpares, IsDealtAll, at_work, on_spares}
use Rattle.pool_workers.specs.Sums.{AllLaterWorkers}
use Rattle.pool_workers.specs.declared.deal.SpareSeats.{SpareSeats}
use Rattle.pool_workers.specs.declared.worker.Worker.{Worker}
use Rattle.pool_workers.proofs.running.run_workers.Given as goal

abbrev pub invariant-loop-worker : goal.invariant-loop-worker
invariant-loop-worker g l =
    (l.host_state.shared ≡ l.initial.host_state.shared)
    × ((f : Knowledge → ℕ) → on_spares f l.host_state.spares.items + at_work f l.workers.items ≡ on_spares f l.initial.host_state.spares.items + at_work f l.initial.workers.items)
    × ((ws : List (Worker _ _ _)) × (mid : List (SpareSeats _ _ _)) × IsDealtAll l.fn.host_state.spares.items ws mid × AllLaterWorkers ws l.workers.items × AllGrownSpares mid l.host_state.spares.items)

abbrev pub decreases-loop-worker : goal.decreases-loop-worker
decreases-loop-worker g l = vec_len l.workers
