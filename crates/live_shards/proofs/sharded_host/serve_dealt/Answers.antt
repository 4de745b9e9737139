use denote.Param.Send.{sendable}
use Rattle.std.proofs.Common.{arith, ◌≡◌, ◌∙◌, ◌+◌, ℕ, ◌<◌, length, map, sym, subst}
use Rattle.std.specs.List.{All}
use Rattle.std.proofs.Crossing.{crosses}
use Rattle.live_feed.specs.Reading.{given_of}
use Rattle.live_shards.proofs.Crossing.{shard_send, shard_sync}
use Rattle.live_shards.proofs.ShardLaws.{answered_by_errands, batch_then, none_answered, placed_less}
use Rattle.live_shards.proofs.sharded_host.serve_dealt.Goals as goal

pub do_all-requires-send-T : goal.do_all-requires-send-T
do_all-requires-send-T g c κs within = search (sendable, crosses, shard_send) depth 40

pub do_all-requires-sync-T : goal.do_all-requires-sync-T
do_all-requires-sync-T g c κs within = search (sendable, crosses, shard_sync) depth 40

pub returns-in_default-clause-answered : goal.returns-in_default-clause-answered
returns-in_default-clause-answered g c =
    none_answered c.args.shards.now c.errands.new.shards (c.args.batch.count + 1) c.args.batch.lines.now c.new.result.items c.requires.some c.new.ensures.items

pub gather-answers-requires : goal.gather-answers-requires
gather-answers-requires g c =
    subst (λ (n : ℕ). All (λ k. k < n) c.args.batch.places.now) (sym (c.bring_back.ensures.length ∙ c.errands.ensures.length))
    (placed_less (length c.args.shards.now) (map given_of c.args.batch.lines.now) c.args.batch.places.now c.requires.places)

pub returns-clause-answered : goal.returns-clause-answered
returns-clause-answered g c =
    let many = c.errands.ensures.length in
    batch_then c.args.shards.now c.bring_back.new.shards c.gather-answers.new.shards c.rest.new.shards _ (map given_of c.args.batch.lines.now) c.args.batch.places.now _ c.requires.shards
    (c.bring_back.ensures.length ∙ many) c.requires.places
    (answered_by_errands c.args.batch c.args.shards.now c.bring_back.new.shards c.in_ok-errands.errands.items c.in-Some.errands.items c.in_ok-errands.ensures.some c.in-Some.ensures
    (λ k d e l. c.bring_back.ensures.back k d e (omega (arith, l, many))))
    c.gather-answers.ensures.gathered c.gather-answers.ensures.hosts c.rest.ensures.hosts
