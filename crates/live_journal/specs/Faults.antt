-- What is wrong with a journal whose lines were answered again.
use Rattle.line_script.specs.declared.run.Stop.{Stop}
use Rattle.line_script.specs.declared.run.Stop.TheVariants as stop
use Rattle.live_journal.specs.declared.fault.JournalFault.{JournalFault}
use Rattle.live_journal.specs.declared.fault.JournalFault.TheVariants as fault

-- the fault to which a stopped replay comes
abbrev pub fault_of_stop : Stop → JournalFault
fault_of_stop stop.CannotRead = fault.CannotRead
fault_of_stop stop.TooLong = fault.CannotRead
fault_of_stop (stop.BadLine n) = fault.BadLine n
fault_of_stop stop.NoMemory = fault.NoMemory
fault_of_stop stop.CannotWrite = fault.CannotTell
