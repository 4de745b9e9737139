use Rattle.std.proofs.Common.{◌≡◌, ◌≤◌, length, vec_len, vec_capacity}
use Rattle.pool_workers.proofs.Deals.{IsDealtTo}
use Rattle.pool_workers.proofs.deal.deal_one.Given as goal

abbrev pub invariant-loop-k : goal.invariant-loop-k
invariant-loop-k g l =
    IsDealtTo l.k l.fn.spares.items l.seats.items l.spares.items
    × (length l.spares.items ≡ length l.fn.spares.items) × (vec_len l.seats ≡ l.k) × (length l.fn.spares.items ≤ vec_capacity l.seats)
