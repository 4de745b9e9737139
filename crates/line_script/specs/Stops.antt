-- How a read that fails ends a run.
use Rattle.line_script.specs.declared.input.ReadError.{ReadError}
use Rattle.line_script.specs.declared.input.ReadError.TheVariants as read
use Rattle.line_script.specs.declared.run.Stop.{Stop}
use Rattle.line_script.specs.declared.run.Stop.TheVariants as stop

-- the stop to which a failed read comes
abbrev pub stop_of_read : ReadError → Stop
stop_of_read read.CannotRead = stop.CannotRead
stop_of_read read.TooLong = stop.TooLong
stop_of_read read.NoMemory = stop.NoMemory
