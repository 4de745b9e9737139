use Rattle.crossbeam_queue.specs.Passes.{view}
use Rattle.pool_queue.proofs.Balances.{puts, may_hold, refused_alone}
use Rattle.pool_queue.proofs.line.Queue.put.Goals as goal

pub push_as-requires-clause-rule : goal.push_as-requires-clause-rule
push_as-requires-clause-rule g c = (puts _ _ _ _ c.requires.part, may_hold _ _)

pub returns-clause-alone : goal.returns-clause-alone
returns-clause-alone g c all = refused_alone _ _ (view c.args.pass.now) (view c.push_as.new.pass) c.args.job c.args.self.now.sized all _ c.push_as.result c.push_as.ensures.rule
