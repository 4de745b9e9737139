use Rattle.std.proofs.Common.{◌≡◌, ◌+◌, ap, ◌∙◌, arith, List, [], ◌∷◌, ◌++◌, Some}
use Rattle.std.proofs.lemmas.List.Elements.{All-pop}
use Rattle.crossbeam_queue.specs.Passes.{Pass, view}
use Rattle.pool_queue.specs.declared.rule.Hand.{Hand}
use Rattle.pool_queue.specs.declared.rule.Job.{Job}
use Rattle.pool_queue.specs.Hands.{weigh}
use Rattle.pool_queue.specs.Queues.{IsOn, parts, parts_by, put_by, taken_by}
use Rattle.pool_queue.proofs.Balances.{merges, weigh-append, weigh-snoc}
use Rattle.pool_queue.proofs.closing.gather.Goals as goal

pub loop-pass-init : goal.loop-pass-init
loop-pass-init c =
    let before : List (Pass Job Hand) = c.args.passes.items in
    let after : List (Pass Job Hand) = c.pop.new.self.items in
    let last = c.in-Some.whole in
    let is : before ≡ after ++ last ∷ [] = c.in-Some.ensures.items in
    let all = All-pop (IsOn c.args.line.now) before after (Some last) is c.requires.passes in
    let sum = c.requires.all in
    let split : parts_by before ≡ parts_by after + parts last = ap parts_by is ∙ weigh-snoc parts after last in (
      all.1.queue,
      all.1.part,
      omega arith,
      (λ h. (
        (let p : put_by h before ≡ put_by h after + weigh h (view last).put = ap (put_by h) is ∙ weigh-snoc (λ (p : Pass Job Hand). weigh h (view p).put) after last in omega arith),
        (let p : taken_by h before ≡ taken_by h after + weigh h (view last).taken = ap (taken_by h) is ∙ weigh-snoc (λ (p : Pass Job Hand). weigh h (view p).taken) after last in omega arith),
      )),
      all.0,
    )

pub absorb-requires-clause-queue : goal.absorb-requires-clause-queue
absorb-requires-clause-queue c =
    let i = c.loop-pass.invariant in
    let all = All-pop (IsOn c.args.line.now) c.loop-pass.passes.items c.pop-in-loop-pass.new.self.items (Some c.in-Some-pop.pass) c.in-Some-pop.ensures.items i.4 in
    (i.0, all.1.queue)

pub absorb-requires-clause-rule : goal.absorb-requires-clause-rule
absorb-requires-clause-rule c = merges _ _ _ _ c.loop-pass.invariant.1

pub loop-pass-preserved : goal.loop-pass-preserved
loop-pass-preserved c =
    let i = c.loop-pass.invariant in
    let before : List (Pass Job Hand) = c.loop-pass.passes.items in
    let after : List (Pass Job Hand) = c.pop-in-loop-pass.new.self.items in
    let last = c.in-Some-pop.pass in
    let was = c.loop-pass.whole in
    let now = c.absorb.new.pass in
    let is : before ≡ after ++ last ∷ [] = c.in-Some-pop.ensures.items in
    let all = All-pop (IsOn c.args.line.now) before after (Some last) is i.4 in
    let q = c.absorb.ensures.queue in
    let r = c.absorb.ensures.rule in
    let both : parts now ≡ parts was + parts last = ap (λ (v : Hand). v.parts) r in
    let split : parts_by before ≡ parts_by after + parts last = ap parts_by is ∙ weigh-snoc parts after last in
    let sum = i.2 in
    let some_part = i.1 in (
      (q.0 ∙ i.0.0, q.2 ∙ i.0.1),
      omega arith,
      omega arith,
      (λ h. (
        (let p : put_by h before ≡ put_by h after + weigh h (view last).put = ap (put_by h) is ∙ weigh-snoc (λ (p : Pass Job Hand). weigh h (view p).put) after last in
            let w : weigh h (view now).put ≡ weigh h (view was).put + weigh h (view last).put = ap (λ (v : Hand). weigh h v.put) r ∙ weigh-append h (view was).put (view last).put in
            let s = (i.3 h).0 in omega arith),
        (let p : taken_by h before ≡ taken_by h after + weigh h (view last).taken = ap (taken_by h) is ∙ weigh-snoc (λ (p : Pass Job Hand). weigh h (view p).taken) after last in
            let w : weigh h (view now).taken ≡ weigh h (view was).taken + weigh h (view last).taken = ap (λ (v : Hand). weigh h v.taken) r ∙ weigh-append h (view was).taken (view last).taken in
            let s = (i.3 h).1 in omega arith),
      )),
      all.0,
    )
