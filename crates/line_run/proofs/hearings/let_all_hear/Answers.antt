use Rattle.std.proofs.Common.{arith}
use Rattle.line_run.proofs.HearingLaws.{all-told-first, nothing-untold}
use Rattle.line_run.proofs.hearings.let_all_hear.Goals as goal

pub loop-at-preserved : goal.loop-at-preserved
loop-at-preserved g c = λ new rest.
    c.loop-at.invariant new
    (all-told-first c.args.number c.args.slot c.args.names.now c.loop-at.world c.tell_others.new.world new c.loop-at.waiting.items c.tell_others.new.waiting.items c.loop-at.at c.index.result.now
    (let t = c.loop-at-test.true in let n = c.len.ensures in omega (arith, t, n)) c.index.ensures c.in_ok-tell_others.ensures rest)

pub returns : goal.returns
returns g c =
    c.loop-at.invariant _
    (nothing-untold c.args.number c.args.slot c.args.names.now c.loop-at.world c.loop-at.waiting.items c.loop-at.at (let t = c.loop-at-test.false in let n = c.len.ensures in omega (arith, t, n)))
