use Rattle.std.proofs.Common.{◌≡◌, ◌≤◌, length, vec_len, vec_capacity}
use Rattle.pool_workers.specs.Spares.{AllBlank}
use Rattle.pool_workers.proofs.deal.make_worker_room.Given as goal

abbrev pub invariant-loop-made : goal.invariant-loop-made
invariant-loop-made g l = (vec_len l.rooms ≡ l._made) × (l.workers ≤ vec_capacity l.rooms) × (length l.rooms.items ≡ l._made) × AllBlank l.cells l.rooms.items
