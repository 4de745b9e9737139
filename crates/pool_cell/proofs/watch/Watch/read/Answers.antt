use Rattle.pool_cell.proofs.Growing.{looks}
use Rattle.pool_cell.proofs.watch.Watch.read.Goals as goal

pub enter_as-requires : goal.enter_as-requires
enter_as-requires g c = looks _ _
