use Rattle.std.proofs.Common.{◌≡◌, ◌<◌, ◌≤◌, ℕ, get_or, length}
use Rattle.live_shards.specs.declared.shard.Errand.{Errand}
use Rattle.live_shards.specs.declared.shard.Shard.{Shard}
use Rattle.live_shards.proofs.sharded_host.bring_back.Given as goal

abbrev pub invariant-loop-place : goal.invariant-loop-place
invariant-loop-place l =
    (length l.shards ≡ length l.fn.shards)
    × (length l.errands.items ≡ length l.fn.errands.items)
    × ((k : ℕ) (d : Shard) (e : Errand) → k < l.place → get_or l.shards k d ≡ (get_or l.fn.errands.items k e).shard)
    × ((k : ℕ) (e : Errand) → l.place ≤ k → get_or l.errands.items k e ≡ get_or l.fn.errands.items k e)
