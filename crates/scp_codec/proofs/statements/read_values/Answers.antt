use Rattle.std.proofs.lemmas.Result.{err_from_is_err_and}
use Rattle.scp_codec.specs.Reading.{values_at}
use Rattle.scp_codec.proofs.ValueLoop.{goes_on, ends, is_done}
use Rattle.scp_codec.proofs.statements.read_values.Goals as goal

pub returns-in_err-value : goal.returns-in_err-value
returns-in_err-value c =
    let p = err_from_is_err_and c.from_residual.result c.from_residual.ensures.1 in
    rw (p.1, p.2) (ends c.in_err-value.field-0.0 c.loop.values c.args.count c.loop.counter c.loop.reader (values_at c.args.count c.args.reader.now) c.loop-test.true c.in_err-value.ensures c.loop.invariant)

pub loop-preserved : goal.loop-preserved
loop-preserved c =
    rw c.in_ok-push.ensures.ok (goes_on c.loop.values c.args.count c.loop.counter c.loop.reader c.in_ok-value.value c.value.new.self (values_at c.args.count c.args.reader.now) c.loop-test.true c.in_ok-value.ensures c.loop.invariant)

pub returns : goal.returns
returns c = is_done c.loop.values c.args.count c.loop.counter c.loop.reader (values_at c.args.count c.args.reader.now) c.loop-test.false c.loop.invariant
