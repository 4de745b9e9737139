use Rattle.std.proofs.Common.{rules, arith, ◌≡◌, ◌∙◌, ◌+◌, ◌<◌, ◌∷◌, ◌++◌, [], length, map, get_or, set, refl, sym, ap, subst}
use Rattle.std.proofs.lemmas.List.{map-append}
use Rattle.live_feed.specs.Served.{reply_of}
use Rattle.live_shards.specs.Parts.{AreGathered}
use Rattle.live_shards.specs.Sharded.{waiting_answers}
use Rattle.live_shards.specs.declared.shard.Shard.{Shard}
use Rattle.live_shards.proofs.Loops.{GatheredSoFar, gathered_more, gathered_now}
use Rattle.live_shards.proofs.ShardLaws.{answers_at, answers_set, same_hosts}
use Rattle.live_shards.proofs.sharded_host.gather.Goals as goal

pub returns-in_default-clause-gathered : goal.returns-in_default-clause-gathered
returns-in_default-clause-gathered c = gathered_now c.args.places.now (waiting_answers c.args.shards.now) c.loop-place.place-index (waiting_answers c.loop-place.shards) (map reply_of c.loop-place.answers.items) c.loop-place.invariant.0

pub returns-in_default-clause-hosts : goal.returns-in_default-clause-hosts
returns-in_default-clause-hosts c =
    let l : c.loop-place.place-index < length c.args.places.now = search rules in
    let p = c.requires c.loop-place.place-index 0 l in
    let long = c.loop-place.auto.shards in
    same_hosts c.loop-place.shards _ _ c.index-shards-place.result (omega (arith, p, long)) refl ∙ c.loop-place.invariant.1

pub returns-in_default-push_back-clause-gathered : goal.returns-in_default-push_back-clause-gathered
returns-in_default-push_back-clause-gathered c =
    subst (AreGathered c.args.places.now (waiting_answers c.args.shards.now)) (ap (map reply_of) (sym c.in_default-push_back.ensures.items))
    (gathered_now c.args.places.now (waiting_answers c.args.shards.now) c.loop-place.place-index (waiting_answers c.loop-place.shards) (map reply_of c.loop-place.answers.items) c.loop-place.invariant.0)

pub returns-in_default-push_back-clause-hosts : goal.returns-in_default-push_back-clause-hosts
returns-in_default-push_back-clause-hosts c =
    let l : c.loop-place.place-index < length c.args.places.now = search rules in
    let p = c.requires c.loop-place.place-index 0 l in
    let long = c.loop-place.auto.shards in
    same_hosts c.loop-place.shards _ _ c.index-shards-place.result (omega (arith, p, long)) refl ∙ c.loop-place.invariant.1

pub loop-place-preserved : goal.loop-place-preserved
loop-place-preserved c =
    let shards = c.loop-place.shards in
    let place = get_or c.args.places.now c.loop-place.place-index 0 in
    let l : c.loop-place.place-index < length c.args.places.now = search rules in
    let p = c.requires c.loop-place.place-index 0 l in
    let long = c.loop-place.auto.shards in
    let within : place < length shards = omega (arith, p, long) in
    let items = rw c.in-Some.is at c.pop_front.ensures.items in
    let new : Shard = record { host = (get_or shards place c.index-shards-place.result).host; answers = c.pop_front.new.self } in
    let more = gathered_more c.args.places.now (waiting_answers c.args.shards.now) c.loop-place.place-index (waiting_answers shards) (map reply_of c.loop-place.answers.items) (reply_of c.in-Some.answer) (map reply_of c.pop_front.new.self.items) 0
    c.loop-place.invariant.0 l (answers_at shards place c.index-shards-place.result within ∙ ap (map reply_of) items) in
    let told : map reply_of c.push_back.new.self.items ≡ map reply_of c.loop-place.answers.items ++ reply_of c.in-Some.answer ∷ [] =
    ap (map reply_of) c.in-Ok.ensures.items ∙ map-append reply_of c.loop-place.answers.items (c.in-Some.answer ∷ []) in (
      subst (λ left. GatheredSoFar c.args.places.now (waiting_answers c.args.shards.now) (c.loop-place.place-index + 1) left (map reply_of c.push_back.new.self.items)) (sym (answers_set shards place new))
          (subst (λ rs. GatheredSoFar c.args.places.now (waiting_answers c.args.shards.now) (c.loop-place.place-index + 1) (set (waiting_answers shards) place (map reply_of c.pop_front.new.self.items)) rs) (sym told) more),
      same_hosts shards place new c.index-shards-place.result within refl ∙ c.loop-place.invariant.1,
    )

pub returns-clause-gathered : goal.returns-clause-gathered
returns-clause-gathered c = gathered_now c.args.places.now (waiting_answers c.args.shards.now) c.loop-place.place-index (waiting_answers c.loop-place.shards) (map reply_of c.loop-place.answers.items) c.loop-place.invariant.0
