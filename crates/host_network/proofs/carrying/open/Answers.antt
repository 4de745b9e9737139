use Rattle.host_network.proofs.Done.{archived-more, archived-same}
use Rattle.host_network.proofs.carrying.open.Goals as goal

pub returns-in_err-open-clause-archived : goal.returns-in_err-open-clause-archived
returns-in_err-open-clause-archived g c = archived-same c.args.archive.now c.args.slots.now c.open.new.self c.in_err-open.ensures.err c.requires.archived

pub returns-clause-archived : goal.returns-clause-archived
returns-clause-archived g c = archived-more c.args.archive.now c.args.slots.now c.open.new.self c.args.slot c.in_ok-open.ensures.open c.requires.slot c.requires.archived
