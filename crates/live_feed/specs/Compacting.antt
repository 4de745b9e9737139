-- A journal is made shorter.
use Rattle.std.specs.Prelude.{◌≡◌, ℕ, None, Option, Result, Ok, Err}
use Rattle.std.specs.Io.KnownBytes.{Appends}
use Rattle.line_script.specs.Script.{Bytes}
use Rattle.line_script.specs.declared.run.Stop.{Stop}
use Rattle.line_script.specs.declared.run.Stop.TheVariants as stop
use Rattle.live_feed.specs.Lasting.{Watched, Watching, compacted, unwatched}
use Rattle.live_feed.specs.Replayed.{HasReplayed}
use Rattle.live_feed.specs.Served.{Serving}
use Rattle.live_feed.specs.declared.replaying.JournalEnd.{JournalEnd}

-- The lines of a journal before its end were answered again, and what lasts of them was written as a shorter one. Or a
-- line is none of a journal, behind lines that are, or something else was in the way. Then nothing was written, unless
-- a write failed: of what that left nothing is said.
abbrev pub HasCompacted : {S : Type 0} → Serving S → ℕ → S → Option Bytes → Option Bytes → Option Bytes
    → Result (Unit {0}) Stop → Type 0
HasCompacted {S} serves longest s file old new (Ok _) =
    (end : JournalEnd) × (t : Watched S)
    × HasReplayed (Watching serves) longest None (unwatched s) file None None (Ok end) t × Appends old new (compacted t.lines)
HasCompacted {S} serves longest s file old new (Err (stop.BadLine n)) =
    (new ≡ old) × ((t : Watched S) × HasReplayed (Watching serves) longest None (unwatched s) file None None (Err (stop.BadLine n)) t)
HasCompacted serves longest s file old new (Err stop.CannotRead) = new ≡ old
HasCompacted serves longest s file old new (Err stop.TooLong) = new ≡ old
HasCompacted serves longest s file old new (Err stop.NoMemory) = new ≡ old
HasCompacted serves longest s file old new (Err stop.CannotWrite) = Unit {0}
