use Rattle.std.proofs.Common.{◌<◌, length, arith}
use Rattle.host_journal.specs.Deciding.{decided_by}
use Rattle.pool_cell.proofs.Published.{count_next, count_one}
use Rattle.pool_cell.proofs.watched.count_decisions.Goals as goal

pub overflow_add-count : goal.overflow_add-count
overflow_add-count g c =
    let t = c.loop-number-test.true in
    let len = c.len-number-end.ensures in
    let lt : c.loop-number.number < length c.args.journal.now.entries = omega arith in
    let next = count_next c.args.journal.now.entries c.loop-number.number lt in
    let mine = count_one decided_by c.decision.result c.is_some.result _ c.is_some.ensures c.decision.ensures in
    let i = c.loop-number.invariant in
    let few = c.requires.few in
    let fits = c.loop-number.auto.number-end in
    omega arith

pub loop-number-preserved : goal.loop-number-preserved
loop-number-preserved g c =
    let t = c.loop-number-test.true in
    let len = c.len-number-end.ensures in
    let lt : c.loop-number.number < length c.args.journal.now.entries = omega arith in
    let next = count_next c.args.journal.now.entries c.loop-number.number lt in
    let mine = count_one decided_by c.decision.result c.is_some.result _ c.is_some.ensures c.decision.ensures in
    let i = c.loop-number.invariant in
    omega arith
