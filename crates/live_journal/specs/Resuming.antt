-- A live host goes on from a journal.
use Rattle.std.specs.Prelude.{◌≡◌, ◌++◌, ℕ, [], ◌∷◌, codes, Option, None, Result, Ok, Err}
use Rattle.std.specs.Fmt.{decimal}
use Rattle.std.specs.Io.KnownBytes.{Appends}
use Rattle.line_script.specs.Script.{Bytes}
use Rattle.line_script.specs.declared.run.Stop.TheVariants as stop
use Rattle.live_feed.specs.Lasting.{Watched, Watching, first_line, unwatched}
use Rattle.live_feed.specs.Served.{Serving}
use Rattle.live_feed.specs.Replayed.{HasReplayed}
use Rattle.live_feed.specs.declared.replaying.JournalEnd.{JournalEnd}
use Rattle.live_journal.specs.declared.fault.JournalFault.{JournalFault}
use Rattle.live_journal.specs.declared.fault.JournalFault.TheVariants as fault

-- the line `resumed L`, with a line feed (10)
abbrev pub resumed_line : ℕ → Bytes
resumed_line n = codes "resumed " ++ (decimal n ++ 10 ∷ [])

-- a line of what a file has is none of a journal, behind lines that are
abbrev pub HasBadLine : {S : Type 0} → Serving S → ℕ → Option ℕ → S → ℕ → S → Type 0
HasBadLine serves longest from s n t = (file : Option Bytes) × HasReplayed serves longest from s file None None (Err (stop.BadLine n)) t

-- the lines of what a file has were answered again; or one is none of a journal; or something else is wrong
abbrev pub HasReplayedFile : {S : Type 0} → Serving S → ℕ → Option ℕ → S → Option Bytes → Option Bytes
    → Result JournalEnd JournalFault → S → Type 0
HasReplayedFile serves longest from s old new (Ok end) t =
    (file : Option Bytes) × HasReplayed serves longest from s file old new (Ok end) t
HasReplayedFile serves longest from s old new (Err (fault.BadLine n)) t = HasBadLine serves longest from s n t
HasReplayedFile serves longest from s old new (Err fault.CannotRead) t = Unit {0}
HasReplayedFile serves longest from s old new (Err fault.InUse) t = Unit {0}
HasReplayedFile serves longest from s old new (Err fault.CannotWrite) t = Unit {0}
HasReplayedFile serves longest from s old new (Err fault.CannotTell) t = Unit {0}
HasReplayedFile serves longest from s old new (Err fault.NoMemory) t = Unit {0}

-- the lines of what a file has were answered again, and then it was told how many there are; or why not
abbrev pub HasResumed : {S : Type 0} → Serving S → ℕ → Option ℕ → S → Option Bytes → Option Bytes
    → Result ℕ JournalFault → S → Type 0
HasResumed serves longest from s old new (Ok n) t =
    (file mid : Option Bytes) × (end : JournalEnd) × HasReplayed serves longest from s file old mid (Ok end) t
    × (n ≡ end.lines) × Appends mid new (resumed_line n)
HasResumed serves longest from s old new (Err (fault.BadLine n)) t = HasBadLine serves longest from s n t
HasResumed serves longest from s old new (Err fault.CannotRead) t = Unit {0}
HasResumed serves longest from s old new (Err fault.InUse) t = Unit {0}
HasResumed serves longest from s old new (Err fault.CannotWrite) t = Unit {0}
HasResumed serves longest from s old new (Err fault.CannotTell) t = Unit {0}
HasResumed serves longest from s old new (Err fault.NoMemory) t = Unit {0}

-- The first line of what a file has that concerns a slot which is still open behind all of them, if there is one. Or
-- why there is no answer.
abbrev pub HasFirst : {S : Type 0} → Serving S → ℕ → S → Result (Option ℕ) JournalFault → Type 0
HasFirst {S} serves longest s (Ok first) =
    (file : Option Bytes) × (end : JournalEnd) × (t : Watched S)
    × HasReplayed (Watching serves) longest None (unwatched s) file None None (Ok end) t
    × (first ≡ first_line t.lines.lasting)
HasFirst {S} serves longest s (Err (fault.BadLine n)) = (t : Watched S) × HasBadLine (Watching serves) longest None (unwatched s) n t
HasFirst serves longest s (Err fault.CannotRead) = Unit {0}
HasFirst serves longest s (Err fault.InUse) = Unit {0}
HasFirst serves longest s (Err fault.CannotWrite) = Unit {0}
HasFirst serves longest s (Err fault.CannotTell) = Unit {0}
HasFirst serves longest s (Err fault.NoMemory) = Unit {0}
