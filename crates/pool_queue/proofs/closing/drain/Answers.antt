use Rattle.std.proofs.Common.{◌++◌, ap, sym, ◌∙◌, arith, append-nil}
use Rattle.crossbeam_queue.specs.Passes.{view}
use Rattle.pool_queue.specs.declared.rule.Hand.{Hand}
use Rattle.pool_queue.proofs.Balances.{takes, may_hold, as_many, drained, not_yet}
use Rattle.pool_queue.proofs.closing.drain.Goals as goal

pub loop-taken-init : goal.loop-taken-init
loop-taken-init g c =
    let e = c.len_as-many.ensures in
    let same = e.queue.1 in
    let all = ap (λ (v : Hand). v.parts) same ∙ c.requires.pass.1 in (
      (e.queue.0.0 ∙ c.requires.pass.0.0, e.queue.0.2 ∙ c.requires.pass.0.1),
      all,
      ap (λ (v : Hand). v.put) same,
      ap (λ (v : Hand). v.taken) same ∙ sym (ap (λ l. (view c.args.whole.now).taken ++ l) c.requires.room.2 ∙ append-nil _),
      c.requires.room.1,
      c.requires.room.0,
      as_many c.len_as-many.result (view c.args.whole.now) c.requires.pass.1 e.rule.1,
      e.rule.0,
    )

pub pop_as-requires-clause-rule : goal.pop_as-requires-clause-rule
pop_as-requires-clause-rule g c = (takes _ _ (let p = c.loop-taken.invariant.1 in omega arith), may_hold _ _)

pub unreachable-requires : goal.unreachable-requires
unreachable-requires g c =
    let i = c.loop-taken.invariant in
    not_yet (view c.args.whole.now) (view c.loop-taken.whole) c.loop-taken.room.items c.len_as-many.result c.loop-taken._taken i.1 i.2 i.3 (sym c.loop-taken.room.ok.0 ∙ i.4) c.loop-taken-test.true i.6 c.in_default.ensures.rule.1

pub returns : goal.returns
returns g c =
    let i = c.loop-taken.invariant in
    let t = c.learn_as.ensures.rule in
    drained (view c.args.whole.now) (view c.loop-taken.whole) t.0 c.loop-taken.room.items c.len_as-many.result c.loop-taken._taken i.1 i.2 i.3 (sym c.loop-taken.room.ok.0 ∙ i.4) c.loop-taken-test.false i.6 t.1
