use Rattle.std.proofs.Common.{[], arith}
use Rattle.pool_workers.proofs.Sums.{kept_none, one_handed}
use Rattle.pool_workers.proofs.worker.Worker.serve_all.Goals as goal

pub loop-job-init : goal.loop-job-init
loop-job-init g c = (c.requires.ready, ([], (λ h. omega arith), kept_none _ _))

pub loop-job-preserved : goal.loop-job-preserved
loop-job-preserved g c =
    let i = c.loop-job.invariant in (
      c.serve.ensures.ready,
      one_handed _ c.args.jobs.items c.loop-job.jobs.items c.pop.new.self.items i.1.0 c.in-Some.job _ c.loop-job.self _ c.in-Some.ensures.items i.1.1 i.1.2 c.serve.ensures.kept,
    )
