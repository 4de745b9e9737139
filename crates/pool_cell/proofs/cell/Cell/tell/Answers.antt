use Rattle.std.proofs.Common.{◌≡◌, ap, ◌∙◌, sym, subst}
use Rattle.crossbeam_queue.specs.Fifo.{Pushes}
use Rattle.crossbeam_queue.specs.Passes.{view}
use Rattle.pool_cell.specs.Rule.{Holds, after_look}
use Rattle.pool_cell.specs.Sights.{SeatSight}
use Rattle.pool_cell.specs.Views.{CellStateSight}
use Rattle.pool_cell.proofs.Seats.{looks_taken, seat_looked}
use Rattle.pool_cell.proofs.cell.Cell.tell.Goals as goal

pub give-requires-clause-rule : goal.give-requires-clause-rule
give-requires-clause-rule g c =
    let w = view c.take.new.pass in
    subst (λ (x : CellStateSight). Pushes Holds 1 c.take.new.pass.id w x (λ u. u ≡ after_look w)) (sym c.publish-cell_state.ensures)
    (looks_taken _ _ _ _ c.seat.invariant.free (ap (λ (s : SeatSight). s.me.closed) c.seat.view_is ∙ c.requires.open_yet) c.take.ensures.rule)

pub invariant_of-seat : goal.invariant_of-seat
invariant_of-seat g c =
    seat_looked c.seat.inside.pass c.take.new.pass c.give.new.pass _ _ _ c.seat.invariant c.take.ensures.rule c.take.ensures.queue.2 c.give.ensures.queue.2 c.give.ensures.view
