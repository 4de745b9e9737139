use Rattle.std.proofs.Common.{rules, arith, ◌≡◌, ◌<◌, ◌+◌, ◌∙◌, [], length, map, sym, subst}
use Rattle.std.proofs.lemmas.Result.{err_from_is_err_and}
use Rattle.std.proofs.lemmas.List.{length-map}
use Rattle.live_feed.specs.Reading.{given_of}
use Rattle.live_feed.specs.Served.{AreAnswered, reply_of}
use Rattle.live_feed.proofs.TogetherLaws.{few_of_all, next_of_all, keeps_both, keeps_refl, rest_at_first, rest_lacks, rest_next, rest_stops, rest_unnumbered}
use Rattle.live_feed.proofs.serving.Feed.serve_lines.Goals as goal

pub loop-line-init : goal.loop-line-init
loop-line-init g c =
    let are = c.serve_batch-answers.ensures in
    let first = c.numbered-numbered.ensures.first in
    let few = few_of_all c.args.lines.now c.numbered-numbered.result.now first in
    let many = length-map c.serve_batch-answers.result.items reply_of in
    (rest_at_first _ _ are.0 _ _ c.args.lines.now _ _ (length c.numbered-numbered.result.now) _ (subst (λ xs. AreAnswered g.S.LineServer.serves c.args.self.now.server (c.args.self.now.count + 1) (map given_of xs) (map reply_of c.serve_batch-answers.result.items) are.0) first are.1) few (λ h. are.2 (sym many ∙ h)), keeps_refl (g.D.Desk.told c.args.desk.now))

pub loop-line-preserved : goal.loop-line-preserved
loop-line-preserved g c =
    let at = next_of_all c.args.lines.now c.numbered-numbered.result.now c.loop-line.line-index c.line-item.result c.numbered-numbered.ensures.first (search rules) c.line-item.is in
    let items = rw c.in-Some.is at c.pop_front.ensures.items in
    let rest = rw items at c.loop-line.invariant.0 in
    let served = rw c.in_ok-settle-in-Some.was at c.settle.ensures.served in
    (rw (← c.settle.ensures.server) at (rest_next _ _ _ _ c.args.lines.now _ _ _ c.loop-line.line-index _ _ _ c.line-item.result at.0 (reply_of c.in-Some.answer) _ _ _ _ rest at.1 served), keeps_both _ _ _ c.loop-line.invariant.1 c.settle.ensures.told)

pub returns-in_err-settle-in-Some-clause-served : goal.returns-in_err-settle-in-Some-clause-served
returns-in_err-settle-in-Some-clause-served g c =
    let at = next_of_all c.args.lines.now c.numbered-numbered.result.now c.loop-line.line-index c.line-item.result c.numbered-numbered.ensures.first (search rules) c.line-item.is in
    let out = err_from_is_err_and c.from_residual.result c.from_residual.ensures.1 in
    let served = rw c.in_err-settle-in-Some.was at c.settle.ensures.unserved in
    let rest = c.loop-line.invariant.0 in
    rw (out.1, out.2) (rest_stops _ _ _ _ c.args.lines.now _ _ _ c.loop-line.line-index _ _ _ c.line-item.result at.0 _ _ _ _ _ _ rest at.1 (served rest.state c.settle.new.self.server))

pub returns-in-None-clause-served : goal.returns-in-None-clause-served
returns-in-None-clause-served g c =
    let at = next_of_all c.args.lines.now c.numbered-numbered.result.now c.loop-line.line-index c.line-item.result c.numbered-numbered.ensures.first (search rules) c.line-item.is in
    let items_none : c.loop-line.answers.items ≡ [] = search rules in
    let rest = rw items_none at c.loop-line.invariant.0 in
    rest_lacks _ _ _ _ c.args.lines.now _ _ _ c.loop-line.line-index _ _ _ c.line-item.result at.0 rest at.1 c.loop-line.self.server

pub returns-then-numbered-lines-clause-served : goal.returns-then-numbered-lines-clause-served
returns-then-numbered-lines-clause-served g c =
    let first = c.numbered-numbered.ensures.first in
    let l : c.loop-line.line-index ≡ length c.numbered-numbered.result.now = search rules in
    let few : length c.numbered-numbered.result.now < length c.args.lines.now = search rules in
    rest_unnumbered _ _ _ _ c.args.lines.now _ _ _ c.loop-line.line-index _ _ _ _ l c.loop-line.invariant.0 (omega (arith, l, few)) (c.numbered-numbered.ensures.none few)
