use Rattle.std.proofs.Common.{rules}
use Rattle.node_store.proofs.Growing.{frees-at}
use Rattle.node_store.proofs.archive.Archive.let_go_at.Goals as goal

pub returns-then-not-has : goal.returns-then-not-has
returns-then-not-has g c = frees-at _ _ _ c.args.number c.clear.ensures (search rules)
