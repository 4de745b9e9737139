use Rattle.std.proofs.Common.{vec_len}
use Rattle.pool_workers.proofs.Deals.{IsGivenFrom}
use Rattle.pool_workers.proofs.deal.give_back.Given as goal

abbrev pub invariant-loop-seat : goal.invariant-loop-seat
invariant-loop-seat g l = IsGivenFrom l.seats.items l.fn.worker.seats.items l.fn.spares.items l.spares.items

abbrev pub decreases-loop-seat : goal.decreases-loop-seat
decreases-loop-seat g l = vec_len l.seats
