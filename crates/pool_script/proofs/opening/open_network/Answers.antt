use Rattle.std.proofs.Common.{◌∙◌, rules, ap}
use Rattle.pool_cell.specs.Sights.{SeatSight}
use Rattle.pool_workers.proofs.Hosting.{hosted}
use Rattle.pool_script.proofs.OpeningLaws.{first_is, ready}
use Rattle.pool_script.proofs.opening.open_network.Goals as goal

pub returns-clause-ready : goal.returns-clause-ready
returns-clause-ready g c =
    ready c.args.config c.in_ok-cell.cell c.in_ok-cell.seats.items c.index_mut.result.now c.open_slots.new.seat c.args.slots.now
    c.in_ok-cell.ensures.cell.0 c.in_ok-cell.ensures.cell.1 c.in_ok-cell.ensures.seats c.in_ok-cell.ensures.fresh c.index_mut.ensures.value c.open_slots.ensures.asked

pub returns-clause-seats : goal.returns-clause-seats
returns-clause-seats g c =
    hosted c.in_ok-cell.cell c.args.config 1 c.in_ok-cell.seats.items c.open_slots.new.seat (search rules) c.in_ok-cell.ensures.cell.1 c.in_ok-cell.ensures.seats
    c.in_ok-cell.ensures.fresh c.in_ok-cell.ensures.theirs c.open_slots.ensures.seat
    (λ d e. c.open_slots.ensures.number ∙ ap (λ (s : SeatSight). s.me.number) (first_is _ _ d c.index_mut.ensures.value e))
