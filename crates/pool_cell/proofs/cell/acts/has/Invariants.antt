use Rattle.std.proofs.Common.{◌≡◌, ◌≢◌, ◌<◌, ℕ, Some, slice_get}
use Rattle.pool_cell.specs.Sights.{SeatSight}
use Rattle.pool_cell.proofs.cell.acts.has.Given as goal

abbrev pub invariant-loop-seat : goal.invariant-loop-seat
invariant-loop-seat g l = (i : ℕ) (s : SeatSight) → i < l.seat-index → slice_get l.seats i ≡ Some s → s.me.number ≢ l.number
