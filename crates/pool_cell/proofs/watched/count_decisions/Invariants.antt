use Rattle.std.proofs.Common.{◌≡◌, ◌+◌, length}
use Rattle.host_journal.specs.Deciding.{decisions_from}
use Rattle.pool_cell.proofs.watched.count_decisions.Given as goal

abbrev pub invariant-loop-number : goal.invariant-loop-number
invariant-loop-number g l = l.count + length (decisions_from l.journal.entries l.number) ≡ l.before + length (decisions_from l.journal.entries l.from)
