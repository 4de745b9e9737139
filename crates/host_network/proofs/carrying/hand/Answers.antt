use Rattle.host_network.proofs.Done.{slots-still}
use Rattle.host_network.proofs.carrying.hand.Goals as goal

pub returns-in_err-delivered-clause-archived : goal.returns-in_err-delivered-clause-archived
returns-in_err-delivered-clause-archived g c = slots-still c.args.archive.now c.put.new.self c.args.slots.now.items c.put.ensures.kept c.requires.archived

pub act-requires-clause-archived : goal.act-requires-clause-archived
act-requires-clause-archived g c = slots-still c.args.archive.now c.put.new.self c.args.slots.now.items c.put.ensures.kept c.requires.archived
