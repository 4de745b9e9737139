use Rattle.pool_cell.proofs.Moves.{adds, pushed_as}
use Rattle.pool_cell.proofs.lock.add.Goals as goal

pub give-requires-clause-rule : goal.give-requires-clause-rule
give-requires-clause-rule g c = pushed_as _ _ _ _ _ _ c.requires.cell_state c.requires.next (adds _ _ _ c.requires.sits c.requires.running c.requires.made)
