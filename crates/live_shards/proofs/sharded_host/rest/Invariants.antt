use Rattle.std.proofs.Common.{◌≡◌, ◌<◌, ℕ, [], get_or}
use Rattle.live_shards.specs.Sharded.{hosts_of}
use Rattle.live_shards.specs.declared.shard.Shard.{Shard}
use Rattle.live_shards.proofs.sharded_host.rest.Given as goal

abbrev pub invariant-loop-place : goal.invariant-loop-place
invariant-loop-place l =
    (hosts_of l.shards ≡ hosts_of l.fn.shards)
    × ((k : ℕ) (d : Shard) → k < l.place → (get_or l.shards k d).answers.items ≡ [])
