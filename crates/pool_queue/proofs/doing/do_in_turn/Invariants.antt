use Rattle.std.proofs.Common.{◌≡◌, ℕ, ◌<◌, ◌≤◌, length, slice_index_or}
use Rattle.pool_queue.proofs.doing.do_in_turn.Given as goal

abbrev pub invariant-loop-place : goal.invariant-loop-place
invariant-loop-place g l =
    (length l.tasks.items ≡ length l.fn.tasks.items)
    × ((k : ℕ) (d : g.row.T.Denot) → k < l.place → k < length l.fn.tasks.items → g.T.Task.does (slice_index_or l.fn.tasks.items k d) (slice_index_or l.tasks.items k d))
    × ((k : ℕ) (d : g.row.T.Denot) → l.place ≤ k → k < length l.fn.tasks.items → slice_index_or l.tasks.items k d ≡ slice_index_or l.fn.tasks.items k d)
