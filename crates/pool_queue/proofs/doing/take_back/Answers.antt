use Rattle.std.proofs.Common.{rules}
use Rattle.pool_queue.proofs.Sharing.{DoesFrom, makes_all}
use Rattle.pool_queue.proofs.doing.take_back.Goals as goal

pub returns : goal.returns
returns g c = makes_all (DoesFrom g.T.Task.does) c.args.places.items c.loop-place.place-iterator.rest.items c.loop-place.done.items (search rules) c.loop-place.invariant.3
