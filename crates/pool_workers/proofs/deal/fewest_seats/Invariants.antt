use Rattle.std.proofs.Common.{◌<◌, ◌≤◌, take}
use Rattle.pool_workers.specs.Spares.{HaveSpareSeats}
use Rattle.pool_workers.proofs.deal.fewest_seats.Given as goal

abbrev pub invariant-loop-spare : goal.invariant-loop-spare
invariant-loop-spare g l = (0 < l.least) × (l.least ≤ l.most) × HaveSpareSeats l.least (take l.spare-index l.spares)
