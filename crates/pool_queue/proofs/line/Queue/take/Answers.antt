use Rattle.crossbeam_queue.specs.Passes.{view}
use Rattle.pool_queue.proofs.Balances.{takes, may_hold, empty_alone}
use Rattle.pool_queue.proofs.line.Queue.take.Goals as goal

pub pop_as-requires-clause-rule : goal.pop_as-requires-clause-rule
pop_as-requires-clause-rule g c = (takes _ _ c.requires.part, may_hold _ _)

pub returns-clause-alone : goal.returns-clause-alone
returns-clause-alone g c all = empty_alone (view c.args.pass.now) (view c.pop_as.new.pass) all _ c.pop_as.result c.pop_as.ensures.rule
