use Rattle.std.proofs.Common.{rules}
use Rattle.pool_queue.proofs.Sharing.{makes_all}
use Rattle.pool_script.proofs.pool.errands.Goals as goal

pub returns : goal.returns
returns g c = makes_all _ c.args.shares.items c.loop-share.share-iterator.rest.items c.loop-share.errands.items (search rules) c.loop-share.invariant
