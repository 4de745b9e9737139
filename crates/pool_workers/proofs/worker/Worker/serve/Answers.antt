use Rattle.std.proofs.Common.{[], ◌∷◌, ap, arith}
use Rattle.pool_workers.proofs.Sums.{busy, kept_both, kept_lacking}
use Rattle.pool_workers.proofs.worker.Worker.serve.Goals as goal

pub apply_at-requires-clause-busy : goal.apply_at-requires-clause-busy
apply_at-requires-clause-busy g c = busy _ _ _ c.args.self.now c.in-Some.ensures.0 c.requires.ready

pub returns-in-Some-clause-kept : goal.returns-in-Some-clause-kept
returns-in-Some-clause-kept g c = kept_both _ (c.args.job ∷ []) [] _ c.apply_at.new.self _ c.apply_at.ensures.kept c.follow_receipts.ensures.kept

pub returns-in-None-clause-kept : goal.returns-in-None-clause-kept
returns-in-None-clause-kept g c = kept_lacking _ _ _ c.args.job c.in-None.ensures (ap (λ ws. ws.items) c.count.ensures.same.0) c.count.ensures.same.1 (let a = c.count.ensures.applied in omega arith) c.count.ensures.refused
