use Rattle.std.proofs.Common.{ℕ, ◌≡◌, ◌+◌, ◌-◌, ap, sym, ◌∙◌, subst, arith, rules, []}
use Rattle.std.proofs.lemmas.List.Elements.{All-push}
use Rattle.crossbeam_queue.specs.Passes.{view}
use Rattle.pool_queue.specs.declared.rule.Hand.{Hand}
use Rattle.pool_queue.specs.Hands.{hand}
use Rattle.pool_queue.specs.Queues.{AllPasses, IsFreshOn, parts, parts_by}
use Rattle.pool_queue.proofs.Balances.{forks, weigh-snoc}
use Rattle.pool_queue.proofs.opening.share_out.Goals as goal

fewer : (n : ℕ) → hand ((65 - n) - 1) [] [] ≡ hand (65 - (n + 1)) [] []
fewer n = ap (λ (k : ℕ). hand k [] []) (omega arith)

pub another-requires-clause-rule : goal.another-requires-clause-rule
another-requires-clause-rule c =
    let n = c.loop-made._made in
    let is : (view c.loop-made.first).parts ≡ 65 - n = ap (λ (v : Hand). v.parts) c.loop-made.invariant.1 in
    let t = c.loop-made-test.true in
    let r = c.requires.passes in
    forks _ _ (omega arith)

pub loop-made-preserved : goal.loop-made-preserved
loop-made-preserved c =
    let i = c.loop-made.invariant in
    let n = c.loop-made._made in
    let q = c.another.ensures in
    let is : view c.another.result ≡ hand 1 [] [] = q.rule.1 in
    let one : parts c.another.result ≡ 1 = ap (λ (v : Hand). v.parts) is in
    let sum : parts_by c.push_reserved.new.self.items ≡ parts_by c.loop-made.room.items + parts c.another.result = ap parts_by c.push_reserved.ensures.items ∙ weigh-snoc parts c.loop-made.room.items c.another.result in
    let before = i.4 in (
      (q.queue.0.0 ∙ i.0.0, q.queue.0.2 ∙ i.0.1),
      q.rule.0 ∙ ap (λ (v : Hand). hand (v.parts - 1) v.put v.taken) i.1 ∙ fewer n,
      search rules,
      search rules,
      omega arith,
      subst (AllPasses (IsFreshOn c.args.line.now)) (sym c.push_reserved.ensures.items) (All-push (IsFreshOn c.args.line.now) c.loop-made.room.items c.another.result i.5
          (record { own = record { queue = q.queue.1; part = omega arith }; put = ap (λ (v : Hand). v.put) is; taken = ap (λ (v : Hand). v.taken) is })),
    )

pub returns-clause-passes : goal.returns-clause-passes
returns-clause-passes c =
    let i = c.loop-made.invariant in
    let r = c.requires.passes in
    let t = c.loop-made-test.false in
    let a = c.loop-made.auto in
    let le = a._made-end r.0 in
    let len = c.push_reserved-2.ensures.len in
    let ok = c.push_reserved-2.new.self.ok.0 in
    let count = i.2 in
    omega arith

pub returns-clause-parts : goal.returns-clause-parts
returns-clause-parts c =
    let i = c.loop-made.invariant in
    let r = c.requires.passes in
    let t = c.loop-made-test.false in
    let a = c.loop-made.auto in
    let mine : parts c.loop-made.first ≡ 65 - c.loop-made._made = ap (λ (v : Hand). v.parts) i.1 in
    let sum : parts_by c.push_reserved-2.new.self.items ≡ parts_by c.loop-made.room.items + parts c.loop-made.first = ap parts_by c.push_reserved-2.ensures.items ∙ weigh-snoc parts c.loop-made.room.items c.loop-made.first in
    let before = i.4 in
    let le = a._made-end r.0 in
    omega arith

pub returns-clause-fresh : goal.returns-clause-fresh
returns-clause-fresh c =
    let i = c.loop-made.invariant in
    let r = c.requires.passes in
    let a = c.loop-made.auto in
    let le = a._made-end r.0 in
    let t = c.loop-made-test.false in
    let mine : parts c.loop-made.first ≡ 65 - c.loop-made._made = ap (λ (v : Hand). v.parts) i.1 in
    subst (AllPasses (IsFreshOn c.args.line.now)) (sym c.push_reserved-2.ensures.items) (All-push (IsFreshOn c.args.line.now) c.loop-made.room.items c.loop-made.first i.5
    (record { own = record { queue = i.0; part = omega arith }; put = ap (λ (v : Hand). v.put) i.1; taken = ap (λ (v : Hand). v.taken) i.1 }))
