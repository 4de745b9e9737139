-- The exit status of each way to end.
use Rattle.std.specs.Prelude.{◌≡◌, ℕ, Bool, false, Result, Ok, Err, MatchResult, if◌then◌else◌}
use Rattle.line_script.specs.declared.run.Stop.{Stop}
use Rattle.line_script.specs.declared.run.Stop.TheVariants as stop
use Rattle.live_feed.specs.declared.fault.Fault.{Fault}
use Rattle.live_feed.specs.declared.fault.Fault.TheVariants as fault
use Rattle.live_journal.specs.Faults.{fault_of_stop}
use Rattle.live_journal.specs.declared.fault.JournalFault.{JournalFault}
use Rattle.live_journal.specs.declared.fault.JournalFault.TheVariants as journal

-- the exit status: 2 for a script or words at fault, 3 if it is out of memory, 4 for a write that failed
abbrev pub status_of : Stop → ℕ
status_of stop.CannotRead = 2
status_of stop.TooLong = 2
status_of (stop.BadLine number) = 2
status_of stop.NoMemory = 3
status_of stop.CannotWrite = 4

-- how a call ended: whether what it compared differs, or the bytes that it read have a fault; or what stopped it
abbrev pub End : Type 0
End = Result Bool Stop

-- the exit status of a call: 1 for a difference or a fault, else 0 or that of the stop
abbrev pub status_of_end : End → ℕ
status_of_end (Ok differs) = if differs then 1 else 0
status_of_end (Err stop) = status_of stop

-- a call ended as the run of its lines did, which compares nothing
abbrev pub IsEndOf : Result (Unit {0}) Stop → End → Type 0
IsEndOf ran end = MatchResult ran (λ _. end ≡ Ok false) (λ stop. end ≡ Err stop)

-- what ended a live host early
abbrev pub stop_of_host : Fault → Stop
stop_of_host fault.CannotRead = stop.CannotRead
stop_of_host fault.TooLong = stop.TooLong
stop_of_host fault.NoMemory = stop.NoMemory
stop_of_host fault.NotAppended = stop.CannotWrite
stop_of_host fault.NotSynced = stop.CannotWrite
stop_of_host fault.CannotWrite = stop.CannotWrite

-- why it did not start from a journal: one that is in use cannot be read
abbrev pub stop_of_journal : JournalFault → Stop
stop_of_journal journal.CannotRead = stop.CannotRead
stop_of_journal journal.InUse = stop.CannotRead
stop_of_journal (journal.BadLine n) = stop.BadLine n
stop_of_journal journal.CannotWrite = stop.CannotWrite
stop_of_journal journal.CannotTell = stop.CannotWrite
stop_of_journal journal.NoMemory = stop.NoMemory

-- a call ended as its live host did
abbrev pub IsEndOfHost : Result (Unit {0}) Fault → End → Type 0
IsEndOfHost ran end = MatchResult ran (λ _. end ≡ Ok false) (λ why. end ≡ Err (stop_of_host why))

-- a call ended since its live host did not start
abbrev pub IsEndOfJournal : JournalFault → End → Type 0
IsEndOfJournal why end = end ≡ Err (stop_of_journal why)

-- a call ended as a journal was made shorter, or was not
abbrev pub IsEndOfCompacting : Result (Unit {0}) Stop → End → Type 0
IsEndOfCompacting made end = MatchResult made (λ _. end ≡ Ok false) (λ why. IsEndOfJournal (fault_of_stop why) end)
