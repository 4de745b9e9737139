use Rattle.std.proofs.Common.{rules, arith, ◌≡◌, ◌<◌, ◌+◌, ◌∙◌, [], length, map, sym, subst}
use Rattle.std.proofs.lemmas.Result.{err_from_is_err_and}
use Rattle.std.proofs.lemmas.List.{length-map}
use Rattle.live_feed.specs.Reading.{given_of}
use Rattle.live_feed.specs.Served.{AreAnswered, reply_of}
use Rattle.live_feed.proofs.ReplayLaws.{again_at_first, again_lacks, again_next, again_stops, again_unnumbered}
use Rattle.live_feed.proofs.TogetherLaws.{few_of_all, next_of_all}
use Rattle.live_feed.proofs.replaying.replay_lines.Goals as goal

pub loop-line-init : goal.loop-line-init
loop-line-init g c =
    let are = c.serve_batch-answers.ensures in
    let first = c.numbered-numbered.ensures.first in
    let few = few_of_all c.args.lines.now c.numbered-numbered.result.now first in
    let many = length-map c.serve_batch-answers.result.items reply_of in
    again_at_first _ _ _ _ _ c.args.lines.now _ (length c.numbered-numbered.result.now) are.0 _
    (subst (λ xs. AreAnswered g.S.LineServer.serves c.args.server.now (c.args.place.end.lines + 1) (map given_of xs) (map reply_of c.serve_batch-answers.result.items) are.0) first are.1)
    few (λ h. are.2 (sym many ∙ h))

pub loop-line-preserved : goal.loop-line-preserved
loop-line-preserved g c =
    let at = next_of_all c.args.lines.now c.numbered-numbered.result.now c.loop-line.line-index c.line-item.result c.numbered-numbered.ensures.first (search rules) c.line-item.is in
    let items = rw c.in-Some.is at c.pop_front.ensures.items in
    let rest = rw items at c.loop-line.invariant in
    again_next _ _ _ _ _ c.args.lines.now _ _ c.loop-line.line-index _ _ _ _ c.line-item.result (reply_of c.in-Some.answer) _ at.0 at.1 rest (rw c.in_ok-end-in-Some.was at c.take_line.ensures)

pub returns-in_err-end-in-Some : goal.returns-in_err-end-in-Some
returns-in_err-end-in-Some g c =
    let at = next_of_all c.args.lines.now c.numbered-numbered.result.now c.loop-line.line-index c.line-item.result c.numbered-numbered.ensures.first (search rules) c.line-item.is in
    let items = rw c.in-Some.is at c.pop_front.ensures.items in
    let rest = rw items at c.loop-line.invariant in
    let out = err_from_is_err_and c.from_residual.result c.from_residual.ensures.1 in
    rw (out.1, out.2) (again_stops _ _ _ _ _ c.args.lines.now _ _ c.loop-line.line-index _ _ _ c.line-item.result (reply_of c.in-Some.answer) _ _ _ at.0 at.1 rest (rw c.in_err-end-in-Some.was at c.take_line.ensures))

pub returns-in-None : goal.returns-in-None
returns-in-None g c =
    let at = next_of_all c.args.lines.now c.numbered-numbered.result.now c.loop-line.line-index c.line-item.result c.numbered-numbered.ensures.first (search rules) c.line-item.is in
    let none : c.loop-line.answers.items ≡ [] = search rules in
    again_lacks _ _ _ _ _ c.args.lines.now _ _ c.loop-line.line-index _ _ c.line-item.result c.serve_batch-answers.new.self at.0 at.1 (rw none at c.loop-line.invariant)

pub returns-then-numbered-lines : goal.returns-then-numbered-lines
returns-then-numbered-lines g c =
    let l : c.loop-line.line-index ≡ length c.numbered-numbered.result.now = search rules in
    let few : length c.numbered-numbered.result.now < length c.args.lines.now = search rules in
    again_unnumbered _ _ _ _ _ c.args.lines.now _ _ c.loop-line.line-index _ _ _ l c.loop-line.invariant (omega (arith, l, few))
