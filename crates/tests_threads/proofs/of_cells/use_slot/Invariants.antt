use Rattle.pool_cell.specs.Cells.{IsSeatOf}
use Rattle.tests_threads.proofs.of_cells.use_slot.Given as goal

abbrev pub invariant-loop-turn : goal.invariant-loop-turn
invariant-loop-turn g l = IsSeatOf l.cell l.seat
