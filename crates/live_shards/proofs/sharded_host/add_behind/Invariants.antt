use Rattle.std.proofs.Common.{◌≡◌, ◌++◌, length}
use Rattle.live_shards.proofs.sharded_host.add_behind.Given as goal

abbrev pub decreases-loop-answer : goal.decreases-loop-answer
decreases-loop-answer l = length l.more.items

abbrev pub invariant-loop-answer : goal.invariant-loop-answer
invariant-loop-answer l = l.answers.items ++ l.more.items ≡ l.fn.answers.items ++ l.fn.more.items
