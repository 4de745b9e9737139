use Rattle.pool_cell.proofs.Moves.{denies, pushed_as}
use Rattle.pool_cell.proofs.lock.deny.Goals as goal

pub give-requires-clause-rule : goal.give-requires-clause-rule
give-requires-clause-rule g c = pushed_as _ _ _ _ _ _ c.requires.cell_state c.requires.next (denies _ _ _ _ c.requires.sits)
