use Rattle.host_network.proofs.Done.{archived-less}
use Rattle.host_network.proofs.carrying.close.Goals as goal

pub returns-clause-archived : goal.returns-clause-archived
returns-clause-archived g c = archived-less c.args.archive.now c.args.slots.now c.close.new.self c.args.slot_at c.close.ensures c.requires.archived
