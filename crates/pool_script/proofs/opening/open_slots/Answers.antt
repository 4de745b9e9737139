use Rattle.std.proofs.Common.{rules, ◌∙◌}
use Rattle.pool_script.proofs.OpeningLaws.{asked_all, asked_on}
use Rattle.pool_script.proofs.opening.open_slots.Goals as goal

pub loop-slot-preserved : goal.loop-slot-preserved
loop-slot-preserved g c = (
  c.open_slot.ensures.seat,
  c.open_slot.ensures.number ∙ c.loop-slot.invariant.1,
  asked_on c.args.cell.now c.args.slots.now c.loop-slot.slot-index _ c.args.seat.now c.loop-slot.seat c.open_slot.new.seat (search rules) c.open_slot.ensures.asked c.loop-slot.invariant.2,
)

pub returns-clause-asked : goal.returns-clause-asked
returns-clause-asked g c = asked_all c.args.cell.now c.args.slots.now c.loop-slot.slot-index c.args.seat.now c.loop-slot.seat (search rules) c.loop-slot.invariant.2
