use Rattle.std.proofs.Common.{◌∙◌}
use Rattle.pool_cell.proofs.Seats.{seat_bare}
use Rattle.pool_cell.proofs.seat.Seat.let_go_receipts.Goals as goal

pub invariant_of-self : goal.invariant_of-self
invariant_of-self g c = seat_bare c.self.inside.pass c.self.inside.number c.self.inside.receipts.items c.shrink_to_fit.new.self.items c.self.invariant (c.shrink_to_fit.ensures.items ∙ c.clear.ensures.items)
