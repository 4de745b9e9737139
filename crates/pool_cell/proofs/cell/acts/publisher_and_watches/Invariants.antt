use Rattle.std.proofs.Common.{◌≡◌, [], replicate}
use Rattle.pool_cell.proofs.cell.acts.publisher_and_watches.Given as goal

abbrev pub invariant-loop : goal.invariant-loop
invariant-loop g l = l.watches.items ≡ replicate l.counter []
