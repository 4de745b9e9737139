use Rattle.std.proofs.Common.{rules}
use Rattle.std.specs.List.{AllZip}
use Rattle.std.proofs.lemmas.Option.{IfSome_then}
use Rattle.pool_queue.proofs.Sharing.{Remembers, all_done, makes_all}
use Rattle.pool_queue.proofs.doing.do_all.Goals as goal

pub take_back-requires-clause-room : goal.take_back-requires-clause-room
take_back-requires-clause-room g c = search rules

pub returns : goal.returns
returns g c =
    let kept : AllZip (Remembers g.T.Task.does) c.args.tasks.items c.loop-task.places.items = makes_all (Remembers g.T.Task.does) c.args.tasks.items c.loop-task.task-iterator.rest.items c.loop-task.places.items (search rules) c.loop-task.invariant.4 in
    IfSome_then c.take_back.result c.take_back.ensures (λ done all. all_done g.T.Task.does c.args.tasks.items c.loop-task.places.items done.items kept all)
