use Rattle.std.proofs.Common.{arith, ◌≡◌, ◌∙◌, ◌+◌, ◌++◌, ◌∷◌, [], map, get_or, sym, ap, subst}
use Rattle.std.proofs.lemmas.List.{get_or-map, length-map, map-append}
use Rattle.live_feed.specs.Reading.{given_of}
use Rattle.live_feed.specs.Served.{reply_of}
use Rattle.live_host.specs.Hosts.{Serves}
use Rattle.live_shards.specs.declared.shard.Shard.{Shard}
use Rattle.live_shards.proofs.Loops.{OwnSoFar, own_first, own_more, own_other, own_end, own_stops}
use Rattle.live_shards.proofs.shard.Shard.work.Goals as goal
use Rattle.live_shards.proofs.shard.Shard.work.Goals.{then-places-at+in-Ok+in-Ok-push_back, else-places-at}

pub loop-at-init : goal.loop-at-init
loop-at-init c =
    let first = own_first c.args.place c.args.self.now.host (c.args.batch.count + 1) (map given_of c.args.batch.lines.now) c.args.batch.places.now in
    subst (λ xs. OwnSoFar c.args.place c.args.self.now.host (c.args.batch.count + 1) (map given_of c.args.batch.lines.now) c.args.batch.places.now 0 c.args.self.now.host (map reply_of xs)) (sym c.requires) first

pub loop-at-preserved : goal.loop-at-preserved
loop-at-preserved c =
    let i = c.loop-at.at in
    let many = length-map c.args.batch.lines.now given_of in
    let long = c.args.batch.long in
    let test = c.loop-at-test.true in
    let so_far : (v : Shard) → Type 0 = λ v. OwnSoFar c.args.place c.args.self.now.host (c.args.batch.count + 1) (map given_of c.args.batch.lines.now) c.args.batch.places.now (i + 1) v.host (map reply_of v.answers.items) in
    elim c.if-places-at.branch [
      | then-places-at+in-Ok+in-Ok-push_back w ↦
          let line = w.index-lines-at.result in
          let at : get_or (map given_of c.args.batch.lines.now) i (given_of line) ≡ given_of line = get_or-map given_of c.args.batch.lines.now i line (given_of line) test ∙ ap given_of (sym w.index-lines-at.is) in
          let one = subst (λ v. Serves c.loop-at.self.host (c.args.batch.count + 1 + i) v (reply_of w.in-Ok.answer) w.serve.new.self) (w.given.ensures ∙ sym at) w.in-Ok.ensures in
          let all : map reply_of w.push_back.new.self.items ≡ map reply_of c.loop-at.self.answers.items ++ reply_of w.in-Ok.answer ∷ [] = ap (map reply_of) w.in-Ok-push_back.ensures.items ∙ map-append reply_of c.loop-at.self.answers.items (w.in-Ok.answer ∷ []) in
          let more = own_more c.args.place c.args.self.now.host (c.args.batch.count + 1) (map given_of c.args.batch.lines.now) c.args.batch.places.now i _ w.serve.new.self _ (reply_of w.in-Ok.answer) (given_of line) 0 c.loop-at.invariant (omega (arith, many, test)) (omega (arith, many, long)) w.if-places-at.true one in
          subst so_far (sym w.self-is) (subst (λ rs. OwnSoFar c.args.place c.args.self.now.host (c.args.batch.count + 1) (map given_of c.args.batch.lines.now) c.args.batch.places.now (i + 1) w.serve.new.self rs) (sym all) more)
      | else-places-at w ↦
          subst so_far (sym w.self-is) (own_other c.args.place c.args.self.now.host (c.args.batch.count + 1) (map given_of c.args.batch.lines.now) c.args.batch.places.now i _ _ 0 c.loop-at.invariant (omega (arith, many, test)) (omega (arith, many, long)) w.if-places-at.false)
    ]

pub returns-in_default : goal.returns-in_default
returns-in_default c =
    let many = length-map c.args.batch.lines.now given_of in
    let long = c.args.batch.long in
    let test = c.loop-at-test.true in
    own_stops _ _ _ _ _ c.loop-at.at _ _ _ 0 c.loop-at.invariant (omega (arith, many, test)) (omega (arith, many, long)) c.if-places-at.true

pub returns-in_default-push_back : goal.returns-in_default-push_back
returns-in_default-push_back c =
    let many = length-map c.args.batch.lines.now given_of in
    let long = c.args.batch.long in
    let test = c.loop-at-test.true in
    rw c.in_default-push_back.ensures.items (own_stops _ _ _ _ _ c.loop-at.at _ _ _ 0 c.loop-at.invariant (omega (arith, many, test)) (omega (arith, many, long)) c.if-places-at.true)

pub returns : goal.returns
returns c =
    let many = length-map c.args.batch.lines.now given_of in
    let long = c.args.batch.long in
    let test = c.loop-at-test.false in
    own_end _ _ _ _ _ c.loop-at.at _ _ c.loop-at.invariant (omega (arith, many, test)) (omega (arith, many, long))
