use Rattle.std.proofs.Common.{subst, sym}
use Rattle.scp_types.specs.declared.event.Event.{Event}
use Rattle.pool_cell.specs.Sounds.{IsWhy}
use Rattle.crossbeam_queue.specs.Passes.{view}
use Rattle.pool_cell.specs.Receipts.{AppliedEvent}
use mathlib.Core.List.{IsPrefix}
use Rattle.pool_cell.specs.Sights.{SeatSight}
use Rattle.pool_cell.proofs.Seats.{made_at, seat_added, seat_denied, seat_same, seen_added}
use Rattle.pool_cell.proofs.cell.Cell.try_apply.Goals as goal

pub invariant_of-seat : goal.invariant_of-seat
invariant_of-seat g c = seat_same c.seat.inside.pass c.try_take.new.pass _ _ c.seat.invariant c.try_take.ensures.queue.2 c.in_default.ensures.rule

pub invariant_of-seat-in-Ok : goal.invariant_of-seat-in-Ok
invariant_of-seat-in-Ok g c =
    let q = c.try_take.ensures.queue in
    let t = c.in-Some.ensures.rule in
    let d = c.add.ensures in
    let e = c.in-Ok.ensures in
    let a : AppliedEvent = c.in-Ok.made.value in
    seat_added c.seat.inside.pass c.try_take.new.pass c.add.new.pass _ _ _ _ a c.seat.invariant t q.2 d.queue.2 d.view e.receipts (made_at (view c.seat.inside.pass) c.in-Some.cell_state (view c.try_take.new.pass) _ _ a t e.ok.made)

pub invariant_of-seat-in-Err : goal.invariant_of-seat-in-Err
invariant_of-seat-in-Err g c =
    let q = c.try_take.ensures.queue in
    let t = c.in-Some.ensures.rule in
    let d = c.deny.ensures in
    seat_denied c.seat.inside.pass c.try_take.new.pass c.deny.new.pass _ _ _ _ _ _ c.seat.invariant t q.2 d.queue.2 d.view c.in-Err.ensures.same.1
    (subst (λ (e : Event). IsWhy c.in-Some.cell_state.log.config c.in-Some.cell_state.log.entries c.in-Some.cell_state.stopped e c.in-Err.refusal) (sym c.of-asked.ensures) c.in-Err.ensures.err.0)

pub returns-in-Ok-clause-seen : goal.returns-in-Ok-clause-seen
returns-in-Ok-clause-seen g c =
    subst (λ (s : SeatSight). IsPrefix s.me.seen (view c.add.new.pass).seen) c.seat.view_is
    (seen_added (view c.seat.inside.pass) c.in-Some.cell_state (view c.try_take.new.pass) (view c.add.new.pass) c.in-Ok.made.value c.seat.invariant.free c.in-Some.ensures.rule c.add.ensures.view)
