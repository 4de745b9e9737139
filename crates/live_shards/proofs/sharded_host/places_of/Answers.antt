use Rattle.std.proofs.Common.{rules, ◌+◌, ◌<◌, length, map, take, sym, subst}
use Rattle.live_feed.specs.Reading.{given_of}
use Rattle.live_shards.specs.Dealing.{IsDealt}
use Rattle.live_shards.specs.Parts.{ArePlaced}
use Rattle.live_shards.proofs.ShardLaws.{placed_next}
use Rattle.live_shards.proofs.sharded_host.places_of.Goals as goal

pub loop-line-preserved : goal.loop-line-preserved
loop-line-preserved c =
    let k = c.loop-line.line-index in
    let l : k < length c.args.lines.now = search rules in
    let dealt = subst (λ v. IsDealt c.args.count v c.deal-dealt.result) c.given.ensures c.deal-dealt.ensures.dealt in (
      search rules,
      search rules,
      subst (ArePlaced c.args.count (map given_of (take (k + 1) c.args.lines.now))) (sym c.push_reserved.ensures.items)
          (placed_next c.args.count c.args.lines.now k c.line-item.result c.loop-line.places.items c.deal-dealt.result l (sym c.line-item.is) c.loop-line.invariant.2 dealt c.if-dealt.false),
    )
