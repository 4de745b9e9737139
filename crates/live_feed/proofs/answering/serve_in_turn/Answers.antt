use Rattle.std.proofs.Common.{rules, arith, ◌≡◌, ◌∙◌, ◌+◌, ◌<◌, ◌++◌, ◌∷◌, [], length, map, sym, ap, subst, length-append}
use Rattle.std.proofs.lemmas.List.{length-map, map-append}
use Rattle.live_feed.specs.Reading.{given_of}
use Rattle.live_feed.specs.Served.{AreAnswered, reply_of}
use Rattle.live_feed.proofs.TogetherLaws.{answered_next}
use Rattle.live_feed.proofs.answering.serve_in_turn.Goals as goal

pub loop-line-preserved : goal.loop-line-preserved
loop-line-preserved g c =
    let serves = g.S.LineServer.serves in
    let k = c.loop-line.line-index in
    let l : k < length c.args.lines.now = search rules in
    let pushed = c.in-Ok-push_back.ensures.items in
    let number : c.loop-line.number + 1 ≡ c.args.count + 1 + k = let is = c.loop-line.invariant.2 in omega (arith, is) in
    let one = subst (λ v. serves c.loop-line.server (c.loop-line.number + 1) v (reply_of c.in-Ok.answer) c.serve.new.self) c.given.ensures c.in-Ok.ensures in
    let more = answered_next serves c.args.server.now c.loop-line.server c.serve.new.self (c.args.count + 1) k c.args.lines.now (map reply_of c.loop-line.answers.items) c.line-item.result (reply_of c.in-Ok.answer) c.loop-line.invariant.0
    (length-map c.loop-line.answers.items reply_of ∙ c.loop-line.invariant.1) l (sym c.line-item.is) (subst (λ n. serves c.loop-line.server n (given_of c.line-item.result) (reply_of c.in-Ok.answer) c.serve.new.self) number one) in
    let all : map reply_of c.push_back.new.self.items ≡ map reply_of c.loop-line.answers.items ++ reply_of c.in-Ok.answer ∷ [] = ap (map reply_of) pushed ∙ map-append reply_of c.loop-line.answers.items (c.in-Ok.answer ∷ []) in (
      subst (λ rs. AreAnswered serves c.args.server.now (c.args.count + 1) (map given_of c.args.lines.now) rs c.serve.new.self) (sym all) more,
      (let long = ap length pushed ∙ length-append c.loop-line.answers.items (c.in-Ok.answer ∷ []) in let same = c.loop-line.invariant.1 in omega (arith, long, same)),
      omega (arith, number),
    )
