use Rattle.std.proofs.Common.{◌≡◌, ◌≤◌, ◌+◌, length, vec_len, vec_capacity}
use Rattle.pool_workers.specs.Spares.{AllBlank, HaveSpareSeats, IsDealtAll, IsSplit, NoneHasCounted}
use Rattle.pool_workers.proofs.deal.deal.Given as goal

abbrev pub invariant-loop-room : goal.invariant-loop-room
invariant-loop-room g l =
    IsDealtAll l.fn.spares.items l.workers.items l.spares.items
    × NoneHasCounted l.workers.items
    × (length l.workers.items + length l.rooms.items ≡ length l.fn.worker_room.rooms.items)
    × IsSplit l.fn.passes.items l.workers.items l.passes.items
    × (vec_len l.passes + length l.workers.items ≡ vec_len l.fn.passes)
    × (vec_capacity l.passes ≡ vec_capacity l.fn.passes)
    × AllBlank (length l.fn.spares.items) l.rooms.items
    × HaveSpareSeats (length l.rooms.items) l.spares.items
    × (length l.spares.items ≡ length l.fn.spares.items)
    × (length l.fn.worker_room.rooms.items ≤ vec_capacity l.workers)

abbrev pub decreases-loop-room : goal.decreases-loop-room
decreases-loop-room g l = vec_len l.rooms
