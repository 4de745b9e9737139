use Rattle.std.proofs.Common.{arith}
use Rattle.std.proofs.lemmas.Fn.{says_at_two}
use Rattle.host_closure.proofs.Walked.{ended_at, other_at, same_at}
use Rattle.host_closure.proofs.first.first_difference.Goals as goal

pub returns-then-not-is_same : goal.returns-then-not-is_same
returns-then-not-is_same g c =
    other_at _ _ c.args.one.now c.args.other.now c.loop-place.place _ _ (grind (arith, c.min-both.ensures, c.loop-place-test.true)) (grind (arith, c.min-both.ensures, c.loop-place-test.true))
    c.index-one-place.is c.index-other-place.is c.loop-place.invariant (says_at_two g.F.Fn c.is_same.ensures c.if-not-is_same.true)

pub loop-place-preserved : goal.loop-place-preserved
loop-place-preserved g c =
    same_at _ (λ x y. ⊥) c.args.one.now c.args.other.now c.loop-place.place _ _ (grind (arith, c.min-both.ensures, c.loop-place-test.true)) (grind (arith, c.min-both.ensures, c.loop-place-test.true))
    c.index-one-place.is c.index-other-place.is c.loop-place.invariant (says_at_two g.F.Fn c.is_same.ensures c.if-not-is_same.false)

pub returns : goal.returns
returns g c =
    ended_at _ _ c.args.one.now c.args.other.now c.min-both.result c.loop-place.place c.min-both.ensures (omega (arith, c.loop-place.auto.place-end, c.loop-place-test.false)) c.if-one-other.false c.loop-place.invariant
