use Rattle.std.proofs.Common.{◌≡◌, ◌+◌, ◌≤◌, length}
use Rattle.std.specs.Prelude.{vec_capacity, vec_len}
use Rattle.pool_queue.proofs.Sharing.{Makes, Remembers}
use Rattle.pool_queue.proofs.doing.do_all.Given as goal

abbrev pub invariant-loop-task : goal.invariant-loop-task
invariant-loop-task g l =
    (goal.iterator-loop-task g).can_next l.task-iterator
    × (goal.iterator-loop-task g).is_finite l.task-iterator
    × (l.count ≤ vec_capacity l.places)
    × (vec_len l.places + length l.task-iterator.rest.items ≡ l.count)
    × Makes (Remembers g.T.Task.does) l.fn.tasks.items l.task-iterator.rest.items l.places.items
