use Rattle.std.proofs.Common.{rules, arith, ◌<◌, length}
use Rattle.live_shards.proofs.ShardLaws.{full_then, left_then, not_full}
use Rattle.live_shards.proofs.sharded_host.are_full.Goals as goal

pub returns-then-count-left : goal.returns-then-count-left
returns-then-count-left c =
    let l : c.loop-shard.shard-index < length c.args.shards.now = search rules in
    full_then c.args.shards.now c.loop-shard.shard-index c.loop-shard.left c.len-count.result c.shard-item.result c.loop-shard.invariant.0 l c.shard-item.is c.len-count.ensures (search rules)

pub loop-shard-preserved : goal.loop-shard-preserved
loop-shard-preserved c =
    let l : c.loop-shard.shard-index < length c.args.shards.now = search rules in
    let less : c.len-count.result < c.loop-shard.left = search rules in
    (left_then c.args.shards.now c.loop-shard.shard-index c.loop-shard.left c.len-count.result c.shard-item.result c.loop-shard.invariant.0 l c.shard-item.is c.len-count.ensures less, omega (arith, less))

pub returns : goal.returns
returns c = not_full c.args.shards.now c.loop-shard.shard-index c.loop-shard.left c.loop-shard.invariant.0 c.loop-shard.invariant.1 (search rules)
