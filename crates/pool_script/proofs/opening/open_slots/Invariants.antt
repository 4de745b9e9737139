use Rattle.std.proofs.Common.{◌≡◌, drop}
use Rattle.pool_cell.specs.Cells.{IsSeatOf}
use Rattle.pool_cell.specs.Sights.{SeatSight}
use Rattle.pool_script.specs.Opening.{HaveAsked}
use Rattle.pool_script.proofs.opening.open_slots.Given as goal

abbrev pub invariant-loop-slot : goal.invariant-loop-slot
invariant-loop-slot g l =
    IsSeatOf l.cell l.seat × (l.seat.me.number ≡ l.fn.seat.me.number)
    × ((u : SeatSight) → HaveAsked l.cell (drop l.slot-index l.slots) l.seat u → HaveAsked l.cell l.slots l.fn.seat u)
