use Rattle.std.proofs.Common.{◌≡◌, ◌≤◌, ◌-◌, ◌+◌, [], vec_len, vec_capacity}
use Rattle.crossbeam_queue.specs.Passes.{view, IsPassOf}
use Rattle.pool_queue.specs.Hands.{hand}
use Rattle.pool_queue.specs.Queues.{AllPasses, IsFreshOn, parts_by}
use Rattle.pool_queue.proofs.opening.share_out.Given as goal

abbrev pub invariant-loop-made : goal.invariant-loop-made
invariant-loop-made l =
    IsPassOf l.line l.first × (view l.first ≡ hand (65 - l._made) [] [])
    × (vec_len l.room + 1 ≡ l._made) × (l.passes ≤ vec_capacity l.room)
    × (parts_by l.room.items + 1 ≡ l._made)
    × AllPasses (IsFreshOn l.line) l.room.items
