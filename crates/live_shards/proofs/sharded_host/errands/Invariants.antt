use Rattle.std.proofs.Common.{◌≡◌, ◌<◌, ◌≤◌, ℕ, [], get_or, length}
use Rattle.std.specs.Prelude.{vec_capacity, vec_len}
use Rattle.live_shards.specs.declared.shard.Errand.{Errand}
use Rattle.live_shards.specs.declared.shard.Shard.{Shard}
use Rattle.live_shards.proofs.sharded_host.errands.Given as goal

abbrev pub invariant-loop-place : goal.invariant-loop-place
invariant-loop-place l =
    (length l.shards ≡ length l.fn.shards)
    × (vec_len l.errands ≡ l.place)
    × (length l.errands.items ≡ l.place)
    × (length l.fn.shards ≤ vec_capacity l.errands)
    × ((k : ℕ) (d : Shard) (e : Errand) → k < l.place → ((get_or l.errands.items k e).shard ≡ get_or l.fn.shards k d) × ((get_or l.errands.items k e).place ≡ k) × ((get_or l.errands.items k e).batch ≡ l.batch))
    × ((k : ℕ) (d : Shard) → l.place ≤ k → get_or l.shards k d ≡ get_or l.fn.shards k d)
    × ((k : ℕ) (d : Shard) → k < l.place → (get_or l.shards k d).answers.items ≡ [])
