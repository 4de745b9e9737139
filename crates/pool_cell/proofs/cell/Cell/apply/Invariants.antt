use Rattle.std.proofs.Common.{◌≡◌}
use Rattle.pool_cell.proofs.cell.Cell.apply.Given as goal

abbrev pub invariant-loop : goal.invariant-loop
invariant-loop g l = (l.seat ≡ l.initial.seat) × (l.event ≡ l.initial.event)
