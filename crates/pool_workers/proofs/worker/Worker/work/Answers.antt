use Rattle.std.proofs.Common.{[]}
use Rattle.pool_workers.proofs.Sums.{kept_none, kept_both, kept_taken, ready_same}
use Rattle.pool_workers.proofs.worker.Worker.work.Goals as goal

pub loop-init : goal.loop-init
loop-init g c = (c.requires.ready, kept_none _ _)

pub serve_or_put_off-requires-clause-ready : goal.serve_or_put_off-requires-clause-ready
serve_or_put_off-requires-clause-ready g c = let t = c.in-Some-take.ensures in ready_same _ _ c.loop.self c.take.new.self t.same.0 t.pass c.loop.invariant.0

pub loop-preserved : goal.loop-preserved
loop-preserved g c =
    let i = c.loop.invariant in
    let t = c.in-Some-take.ensures in
    let e = c.serve_or_put_off.ensures in (
      e.ready,
      kept_both c.args.workplace.now.shared.now.cells.items [] [] _ c.loop.self _ i.1 (kept_taken c.args.workplace.now.shared.now.cells.items c.loop.self c.take.new.self c.serve_or_put_off.new.self c.in-Some-take.job t.same.0 t.same.1 t.same.2 t.take e.kept),
    )
