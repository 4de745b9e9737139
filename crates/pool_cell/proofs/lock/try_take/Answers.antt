use Rattle.pool_cell.proofs.Moves.{takes}
use Rattle.pool_cell.proofs.lock.try_take.Goals as goal

pub try_pop_as-requires-clause-rule : goal.try_pop_as-requires-clause-rule
try_pop_as-requires-clause-rule g c = takes _ _ c.requires.known c.requires.away
