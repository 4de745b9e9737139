use Rattle.std.proofs.Common.{ap, ◌∙◌, arith, refl, length, ◌≤◌}
use Rattle.pool_queue.specs.Hands.{weigh}
use Rattle.pool_workers.specs.Sums.{applied_count, refused_count}
use Rattle.std.proofs.lemmas.List.{take_all}
use Rattle.pool_workers.proofs.Worked.{weigh_more}
use Rattle.pool_workers.proofs.running.report_of.Goals as goal

pub loop-worker-preserved : goal.loop-worker-preserved
loop-worker-preserved g c =
    let i = c.loop-worker.invariant in
    let ws = c.args.workers.now in
    let n = c.loop-worker.worker-index in
    let x = c.worker-item.result in (
      c.add-applied.ensures ∙ (let m = weigh_more applied_count ws n x c.loop-worker-test.true c.worker-item.is in let j = i.0 in omega arith),
      c.add-refused.ensures ∙ (let m = weigh_more refused_count ws n x c.loop-worker-test.true c.worker-item.is in let j = i.1 in omega arith),
    )

pub returns : goal.returns
returns g c =
    let i = c.loop-worker.invariant in
    let ws = c.args.workers.now in
    let le : length ws ≤ c.loop-worker.worker-index = let t = c.loop-worker-test.false in omega arith in
    record {
      applied = i.0 ∙ ap (weigh applied_count) (take_all c.loop-worker.worker-index ws le);
      refused = i.1 ∙ ap (weigh refused_count) (take_all c.loop-worker.worker-index ws le);
      unrun = refl;
    }
