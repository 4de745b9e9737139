use Rattle.std.proofs.Common.{◌≡◌, ◌≤◌, ℕ, length, Some, slice_get, vec_len, vec_capacity}
use Rattle.crossbeam_queue.specs.Passes.{view, IsPassOf}
use Rattle.pool_cell.specs.Rule.{after_opening, new_seat}
use Rattle.pool_cell.specs.Sights.{SeatSight}
use Rattle.pool_cell.proofs.cell.Cell.open_with.Given as goal

abbrev pub ghosts-give : goal.ghosts-give
ghosts-give g a = record { next = after_opening a.cell_state.log.config a.cell_state.seats }

abbrev pub invariant-loop-number : goal.invariant-loop-number
invariant-loop-number g l =
    IsPassOf l.lock l.opener
    × (view l.opener ≡ record (after_opening l.fn.config l.seats) { made = l.number })
    × (vec_len l.all ≡ l.number) × (length l.all.items ≡ l.number) × (l.seats ≤ vec_capacity l.all)
    × ((k : ℕ) (s : SeatSight) → slice_get l.all.items k ≡ Some s → (s.cell ≡ l.lock.table.shared.table_id) × (s.me ≡ new_seat l.fn.config l.seats k))
