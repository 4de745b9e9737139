use Rattle.std.proofs.Common.{rules, ◌∙◌, ◌<◌, length, refl}
use Rattle.live_shards.proofs.ShardLaws.{rested_more, same_hosts}
use Rattle.live_shards.proofs.sharded_host.rest.Goals as goal

pub loop-place-preserved : goal.loop-place-preserved
loop-place-preserved c =
    let l : c.loop-place.place < length c.loop-place.shards = search rules in (
      same_hosts c.loop-place.shards c.loop-place.place _ c.index-shards-place.result l refl ∙ c.loop-place.invariant.0,
      rested_more c.loop-place.shards c.loop-place.place _ l c.clear.ensures.items c.loop-place.invariant.1,
    )
