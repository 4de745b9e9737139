use Rattle.host_journal.proofs.Begins.{nothing-kept}
use Rattle.host_journal.proofs.kept_entries.KeptKeeping.nothing.Goals as goal

pub returns-clause-kept : goal.returns-clause-kept
returns-clause-kept c = λ nodes archive. nothing-kept nodes archive c.new-2.result.items c.new.result.items c.new-2.ensures.items c.new.ensures.items
