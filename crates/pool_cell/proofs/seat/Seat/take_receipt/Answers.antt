use Rattle.std.proofs.Common.{◌≡◌, Some, slice_get, subst}
use Rattle.pool_cell.specs.Sights.{SeatSight}
use Rattle.pool_cell.proofs.Seats.{first_kept, seat_without}
use Rattle.pool_cell.proofs.seat.Seat.take_receipt.Goals as goal

pub invariant_of-self : goal.invariant_of-self
invariant_of-self g c = seat_without c.self.inside.pass c.self.inside.number c.self.inside.receipts.items c.pop_front.new.self.items c.in-Some.receipt c.self.invariant c.in-Some.ensures.items

pub returns-in-Some-clause-some : goal.returns-in-Some-clause-some
returns-in-Some-clause-some g c =
    subst (λ (s : SeatSight). slice_get s.me.receipts s.let_go ≡ Some c.in-Some.receipt) c.self.view_is
    (first_kept _ c.self.invariant.gone c.self.inside.receipts.items c.pop_front.new.self.items c.in-Some.receipt c.self.invariant.receipts c.in-Some.ensures.items)
