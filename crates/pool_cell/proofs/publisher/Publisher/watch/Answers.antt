use Rattle.pool_cell.proofs.Growing.{admits}
use Rattle.pool_cell.proofs.publisher.Publisher.watch.Goals as goal

pub reader-requires : goal.reader-requires
reader-requires g c = admits
