use Rattle.std.proofs.Common.{inl}
use Rattle.live_journal.specs.declared.fault.JournalFault.TheVariants as journal
use Rattle.scphost.proofs.hosting.serve_with_journal.Goals as goal

pub returns-in_default : goal.returns-in_default
returns-in_default g c = inl (journal.NoMemory, tt, c.print_end_of_journal.ensures)
