use Rattle.pool_cell.proofs.Moves.{closes}
use Rattle.pool_cell.proofs.Seats.{seat_same}
use Rattle.pool_cell.proofs.cell.acts.closer_from.Goals as goal

pub another-requires-clause-rule : goal.another-requires-clause-rule
another-requires-clause-rule g c = closes _ _ c.seat.invariant.free.known

pub invariant_of-seat : goal.invariant_of-seat
invariant_of-seat g c = let e = c.another.ensures in seat_same c.seat.inside.pass c.another.new.pass _ _ c.seat.invariant e.queue.0.2 e.rule.0
