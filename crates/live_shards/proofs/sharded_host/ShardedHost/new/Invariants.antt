use Rattle.std.proofs.Common.{◌≡◌, ◌≤◌, length}
use Rattle.std.specs.Prelude.{vec_capacity, vec_len}
use Rattle.std.specs.List.{All}
use Rattle.live_shards.proofs.ShardLaws.{IsFresh}
use Rattle.live_shards.proofs.sharded_host.ShardedHost.new.Given as goal

abbrev pub invariant-loop-made : goal.invariant-loop-made
invariant-loop-made l =
    (vec_len l.shards ≡ l._made) × (l.count ≤ vec_capacity l.shards) × (length l.shards.items ≡ l._made) × All (IsFresh l.bytes) l.shards.items
