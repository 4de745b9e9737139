use Rattle.std.proofs.Common.{arith, sym, ◌∙◌}
use Rattle.scp_types.proofs.Insertions.{at_front, there, one_more, at_end}
use Rattle.scp_types.proofs.values.missing_at.Goals as goal

pub returns-then-lt-clause-place : goal.returns-then-lt-clause-place
returns-then-lt-clause-place c =
    at_front c.args.value.now c.index-items-index.result c.args.items.now c.loop-index.index c.loop-index-test.true c.index-items-index.is c.loop-index.invariant (sym c.lt.ensures ∙ c.if-lt.true)

pub returns-then-eq-clause-place : goal.returns-then-eq-clause-place
returns-then-eq-clause-place c =
    there c.args.value.now c.index-items-index.result c.args.items.now c.loop-index.index c.loop-index-test.true c.index-items-index.is c.loop-index.invariant (sym c.lt.ensures ∙ c.if-lt.false) (sym c.eq.ensures ∙ c.if-eq.true)

pub loop-index-preserved : goal.loop-index-preserved
loop-index-preserved c =
    one_more c.args.value.now c.index-items-index.result c.args.items.now c.loop-index.index c.loop-index-test.true c.index-items-index.is c.loop-index.invariant (sym c.lt.ensures ∙ c.if-lt.false) (sym c.eq.ensures ∙ c.if-eq.false)

pub returns-clause-place : goal.returns-clause-place
returns-clause-place c = at_end c.args.value.now c.args.items.now c.loop-index.index (omega arith) c.loop-index.invariant
