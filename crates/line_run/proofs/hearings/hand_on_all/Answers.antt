use Rattle.std.proofs.Common.{◌+◌, ◌≤◌, None, Some, arith, length}
use Rattle.line_run.proofs.HearingLaws.{cut-first, handed-first, nothing-left, still-within}
use Rattle.line_run.proofs.hearings.hand_on_all.Goals as goal

pub returns-in-Some-clause-handed : goal.returns-in-Some-clause-handed
returns-in-Some-clause-handed g c =
    c.loop-at.invariant.0 (Some c.in-Some.refusal) _ _
    (cut-first c.args.number c.args.slot c.args.names.now c.loop-at.world c.let_others_hear.new.world c.loop-at.waiting.items c.let_others_hear.new.waiting.items c.loop-at.at c.index.result.now _ c.in-Some.refusal
    (let t = c.loop-at-test.true in let n = c.len.ensures in omega (arith, t, n)) c.index.ensures c.in_ok-refusal.ensures c.in-Some.is)

pub returns-in-Some-clause-within : goal.returns-in-Some-clause-within
returns-in-Some-clause-within g c =
    let more : c.loop-at.at + 1 ≤ length c.let_others_hear.new.waiting.items = still-within c.loop-at.waiting.items c.let_others_hear.new.waiting.items c.in_ok-refusal.ensures.0 c.loop-at.at (let t = c.loop-at-test.true in let n = c.len.ensures in omega (arith, t, n)) c.in_ok-refusal.ensures.1 in
    omega (arith, more)

pub loop-at-preserved : goal.loop-at-preserved
loop-at-preserved g c = (
  λ ended left new rest.
      c.loop-at.invariant.0 ended left new
      (handed-first c.args.number c.args.slot c.args.names.now c.loop-at.world c.let_others_hear.new.world new c.loop-at.waiting.items c.let_others_hear.new.waiting.items left c.loop-at.at c.index.result.now _ ended
      (let t = c.loop-at-test.true in let n = c.len.ensures in omega (arith, t, n)) c.index.ensures c.in_ok-refusal.ensures c.in-None.is rest),
  still-within c.loop-at.waiting.items c.let_others_hear.new.waiting.items c.in_ok-refusal.ensures.0 c.loop-at.at (let t = c.loop-at-test.true in let n = c.len.ensures in omega (arith, t, n)) c.in_ok-refusal.ensures.1,
)

pub returns-clause-handed : goal.returns-clause-handed
returns-clause-handed g c =
    c.loop-at.invariant.0 None _ _
    (nothing-left c.args.number c.args.slot c.args.names.now c.loop-at.world c.loop-at.waiting.items c.loop-at.at (let t = c.loop-at-test.false in let n = c.len.ensures in omega (arith, t, n)))

pub returns-clause-within : goal.returns-clause-within
returns-clause-within g c = c.loop-at.invariant.1
