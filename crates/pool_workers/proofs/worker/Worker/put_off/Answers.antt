use Rattle.pool_workers.proofs.Sums.{kept_put}
use Rattle.pool_workers.proofs.worker.Worker.put_off.Goals as goal

pub returns-in-None-clause-kept : goal.returns-in-None-clause-kept
returns-in-None-clause-kept g c =
    let same = c.put_back.ensures.same in
    kept_put _ c.args.self.now c.put_back.new.self c.args.job same.0 same.1 same.2 c.in-None.ensures.put
