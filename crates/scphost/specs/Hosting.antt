-- What a live host does with what it is sent.
use Rattle.std.specs.Prelude.{◌≡◌, ◌⊎◌, ◌+◌, ℕ, Bool, false, Option, Some, None, Result, Ok, Err}
use Rattle.line_script.specs.Script.{Bytes}
use Rattle.live_feed.specs.Compacting.{HasCompacted}
use Rattle.live_feed.specs.Hosted.{HasDone, HasHostedStream}
use Rattle.live_feed.specs.declared.fault.Fault.{Fault}
use Rattle.live_feed.specs.declared.reading.TheConstants.{LONGEST_LINE}
use Rattle.live_feed.specs.Lasting.{Watched, Watching, unwatched}
use Rattle.live_feed.specs.Served.{Serving}
use Rattle.live_journal.specs.Resuming.{HasBadLine, HasFirst, HasResumed}
use Rattle.live_journal.specs.declared.fault.JournalFault.{JournalFault}
use Rattle.live_journal.specs.declared.fault.JournalFault.TheVariants as journal
use Rattle.live_host.specs.Hosts.{Live, Remembers, Serves, new_live}
use Rattle.scphost_words.specs.declared.replay.ReplayFrom.{ReplayFrom}
use Rattle.scphost_words.specs.declared.replay.ReplayFrom.TheVariants.{Line, Open}
use Rattle.line_script.specs.declared.run.Stop.{Stop}
use Rattle.scphost.specs.Stops.{End, IsEndOfCompacting, IsEndOfHost, IsEndOfJournal}

-- From a state on, a live host served what it was sent line by line as it came, the first line with this number. What
-- it answered is written, and it is told how that ended.
abbrev pub HasServedFrom : Serving Live → Live → ℕ → Option Bytes → Option Bytes → Option Bytes → End → Type 0
HasServedFrom serves start n input old new end =
    (ran : Result (Unit {0}) Fault) × (left : Option Bytes) × (last : Live) × IsEndOfHost ran end
    × HasHostedStream serves LONGEST_LINE start n input left (HasDone None None old new) ran last

-- From which line of a journal on answers are told: from none, from this one, or from the first that opened a slot
-- which is still open. Or it is said why that cannot be told.
abbrev pub IsFrom : Bool → Option ReplayFrom → Result (Option ℕ) JournalFault → Type 0
IsFrom bytes None from = from ≡ Ok None
IsFrom bytes (Some (Line n)) from = from ≡ Ok (Some n)
IsFrom bytes (Some Open) from = HasFirst Remembers LONGEST_LINE (new_live bytes) from

-- a host went on from its journal, which has this many lines
abbrev pub HasGoneOn : Bool → Option ReplayFrom → Option Bytes → Option Bytes → ℕ → Live → Type 0
HasGoneOn bytes from old new n t =
    (first : Option ℕ) × IsFrom bytes from (Ok first) × HasResumed Remembers LONGEST_LINE first (new_live bytes) old new (Ok n) t

-- Why a host did not go on from its journal. If a line is named, it is none of a journal, behind lines that are. Of
-- other reasons nothing is said.
abbrev pub IsNotGoneOn : Bool → JournalFault → Type 0
IsNotGoneOn bytes (journal.BadLine n) =
    ((first : Option ℕ) × (t : Live) × HasBadLine Remembers LONGEST_LINE first (new_live bytes) n t)
    ⊎ ((t : Watched Live) × HasBadLine (Watching Remembers) LONGEST_LINE None (unwatched (new_live bytes)) n t)
IsNotGoneOn bytes journal.CannotRead = Unit {0}
IsNotGoneOn bytes journal.InUse = Unit {0}
IsNotGoneOn bytes journal.CannotWrite = Unit {0}
IsNotGoneOn bytes journal.CannotTell = Unit {0}
IsNotGoneOn bytes journal.NoMemory = Unit {0}

-- a host went on, which is told as a file and a number; or why not
abbrev pub HasStarted : {F : Type 0} → Bool → Option ReplayFrom → Option Bytes → Option Bytes → Result (F × ℕ) JournalFault
    → Live → Type 0
HasStarted bytes from old new (Ok started) t = HasGoneOn bytes from old new started.1 t
HasStarted bytes from old new (Err why) t = IsNotGoneOn bytes why

-- A host that has no networks at first, and prints envelopes as bytes if that is asked for, served what it was sent.
-- With a journal it goes on from the end of that, and no block says that it was out of memory. Or it did not start, for
-- a reason that is told.
abbrev pub HasServed : Bool → Option Bytes → Option ReplayFrom → Option Bytes → Option Bytes → Option Bytes → End → Type 0
HasServed bytes None from input old new end = HasServedFrom Serves (new_live bytes) 1 input old new end
HasServed bytes (Some name) from input old new end =
    ((why : JournalFault) × IsNotGoneOn bytes why × IsEndOfJournal why end)
    ⊎ ((n : ℕ) × (t : Live) × (mid : Option Bytes) × HasGoneOn bytes from old mid n t
    × HasServedFrom Remembers t (n + 1) input mid new end)

-- what lasts of a journal was written as a shorter one, or why not, and it is told how that ended
abbrev pub HasMadeShorter : Option Bytes → Option Bytes → Option Bytes → End → Type 0
HasMadeShorter journal old new end =
    (made : Result (Unit {0}) Stop) × IsEndOfCompacting made end
    × HasCompacted Remembers LONGEST_LINE (new_live false) journal old new made
