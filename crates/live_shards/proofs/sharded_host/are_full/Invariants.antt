use Rattle.std.proofs.Common.{◌≡◌, ◌+◌, ◌<◌, take}
use Rattle.live_shards.specs.Parts.{networks_of_all}
use Rattle.live_shards.specs.Sharded.{hosts_of}
use Rattle.live_shards.proofs.sharded_host.are_full.Given as goal

abbrev pub invariant-loop-shard : goal.invariant-loop-shard
invariant-loop-shard l = (l.left + networks_of_all (take l.shard-index (hosts_of l.shards)) ≡ 4096) × (0 < l.left)
