use Rattle.crossbeam_queue.specs.Passes.{view}
use Rattle.pool_cell.specs.Rule.{after_look}
use Rattle.pool_cell.proofs.cell.Cell.tell.Given as goal

abbrev pub ghosts-give : goal.ghosts-give
ghosts-give g a = record { next = after_look (view a.pass.now) }
