use Rattle.std.proofs.Common.{below_more, refl}
use Rattle.pool_cell.specs.Closing.{HasNumber}
use Rattle.pool_cell.proofs.cell.acts.has_all.Goals as goal

pub loop-number-preserved : goal.loop-number-preserved
loop-number-preserved g c = let here : HasNumber c.args.seats.now c.loop-number.number = c.if-not-has.ensures.0 refl in below_more (HasNumber c.args.seats.now) _ c.loop-number.invariant here
