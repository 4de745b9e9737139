use Rattle.std.proofs.Common.{◌<◌, ℕ}
use Rattle.pool_cell.specs.Closing.{HasNumber}
use Rattle.pool_cell.proofs.cell.acts.has_all.Given as goal

abbrev pub invariant-loop-number : goal.invariant-loop-number
invariant-loop-number g l = (k : ℕ) → k < l.number → HasNumber l.seats k
