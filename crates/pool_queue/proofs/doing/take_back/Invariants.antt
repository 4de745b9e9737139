use Rattle.std.proofs.Common.{◌≡◌, ◌+◌, ◌≤◌, length}
use Rattle.std.specs.Prelude.{vec_capacity, vec_len}
use Rattle.pool_queue.proofs.Sharing.{DoesFrom, Makes}
use Rattle.pool_queue.proofs.doing.take_back.Given as goal

abbrev pub invariant-loop-place : goal.invariant-loop-place
invariant-loop-place g l =
    (goal.iterator-loop-place g).can_next l.place-iterator
    × (goal.iterator-loop-place g).is_finite l.place-iterator
    × (vec_len l.done + length l.place-iterator.rest.items ≤ vec_capacity l.done)
    × Makes (DoesFrom g.T.Task.does) l.fn.places.items l.place-iterator.rest.items l.done.items
