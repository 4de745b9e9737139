-- What ends a live host early.
use Rattle.line_script.specs.declared.input.ReadError.{ReadError}
use Rattle.line_script.specs.declared.input.ReadError.TheVariants as read
use Rattle.live_feed.specs.declared.fault.Fault.{Fault}
use Rattle.live_feed.specs.declared.fault.Fault.TheVariants as fault

-- the fault to which a failed read comes
abbrev pub fault_of_read : ReadError → Fault
fault_of_read read.CannotRead = fault.CannotRead
fault_of_read read.TooLong = fault.TooLong
fault_of_read read.NoMemory = fault.NoMemory
