use Rattle.std.proofs.Common.{◌≡◌, take, drop, map, ◌++◌}
use Rattle.crossbeam_queue.specs.Passes.{view, IsPassOf}
use Rattle.pool_cell.specs.Closing.{CloserKeeps, AllSeats, ended_sight}
use Rattle.pool_cell.proofs.Closing.{KnowsItsEnd}
use Rattle.pool_cell.proofs.cell.acts.gather.Given as goal

abbrev pub invariant-loop-seat : goal.invariant-loop-seat
invariant-loop-seat g l =
    let before = view l.initial.keeper in
    IsPassOf l.lock l.keeper
    × CloserKeeps before (view l.keeper)
    × (l.seats ≡ map ended_sight (take l.seat-index l.initial.seats) ++ drop l.seat-index l.initial.seats)
    × AllSeats (λ s. KnowsItsEnd before (ended_sight s)) (take l.seat-index l.initial.seats)
