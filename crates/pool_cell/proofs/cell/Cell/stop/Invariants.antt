use Rattle.crossbeam_queue.specs.Passes.{view}
use Rattle.pool_cell.specs.Rule.{after_stop}
use Rattle.pool_cell.proofs.cell.Cell.stop.Given as goal

abbrev pub ghosts-give : goal.ghosts-give
ghosts-give g a = record { next = after_stop (view a.pass.now) }
