use Rattle.std.proofs.Common.{◌≡◌, ◌≤◌, ◌+◌, ◌++◌, length, vec_len, vec_capacity}
use Rattle.crossbeam_queue.specs.Passes.{view, IsPassOf, ruled_capacity}
use Rattle.pool_queue.specs.Queues.{parts}
use Rattle.pool_queue.proofs.closing.drain.Given as goal
use Rattle.pool_queue.specs.Hands.{all_parts}

abbrev pub invariant-loop-taken : goal.invariant-loop-taken
invariant-loop-taken g l =
    IsPassOf l.line l.whole × (parts l.whole ≡ all_parts)
    × ((view l.whole).put ≡ (view l.fn.whole).put)
    × ((view l.whole).taken ≡ (view l.fn.whole).taken ++ l.room.items)
    × (vec_len l.room ≡ l._taken)
    × (ruled_capacity l.line ≤ vec_capacity l.room)
    × (length (view l.fn.whole).put ≡ length (view l.fn.whole).taken + l.many)
    × (l.many ≤ ruled_capacity l.line)
