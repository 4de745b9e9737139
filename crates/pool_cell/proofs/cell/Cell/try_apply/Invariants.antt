use Rattle.crossbeam_queue.specs.Passes.{view}
use Rattle.pool_cell.specs.Rule.{after_application, after_denial}
use Rattle.pool_cell.proofs.cell.Cell.try_apply.Given as goal

abbrev pub ghosts-add : goal.ghosts-add
ghosts-add g a = record { next = after_application (view a.pass.now) a.made.now.value }

abbrev pub ghosts-deny : goal.ghosts-deny
ghosts-deny g a = record { next = after_denial (view a.pass.now) a.asked.now.value a.refusal }
