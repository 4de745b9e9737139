use Rattle.pool_cell.specs.Publishing.{IsPublished}
use Rattle.pool_cell.proofs.watched.append_all.Given as goal

abbrev pub invariant-loop-number : goal.invariant-loop-number
invariant-loop-number g l = IsPublished l.journal.entries l.number l.publisher
