-- Which line of a journal opened the first slot that is still open.
use Rattle.std.proofs.Common.{◌≡◌, ℕ, ap₂, subst}
use Rattle.std.specs.Prelude.{Option, None, Ok, Err}
use Rattle.live_feed.specs.Lasting.{Lines, Watched, Watching, first_line, no_lines, unwatched}
use Rattle.live_feed.specs.Served.{Serving}
use Rattle.live_feed.specs.Replayed.{HasReplayed}
use Rattle.live_feed.specs.declared.replaying.JournalEnd.{JournalEnd}
use Rattle.live_journal.specs.Resuming.{HasBadLine, HasFirst, HasReplayedFile}
use Rattle.live_journal.specs.declared.fault.JournalFault.{JournalFault}
use Rattle.live_journal.specs.declared.fault.JournalFault.TheVariants as fault

unwatched_is : {S : Type 0} (s : S) (start : Watched S) → start.server ≡ s → start.lines ≡ no_lines → start ≡ unwatched s
unwatched_is {S} s start e f = ap₂ (λ (x : S) (y : Lines). record { server = x; lines = y }) e f

-- the lines were answered again, and this is the first that concerns what is open
pub first_found : {S : Type 0} (serves : Serving S) (longest : ℕ) (s : S) (start t : Watched S) (end : JournalEnd) (first : Option ℕ) → start.server ≡ s → start.lines ≡ no_lines
    → HasReplayedFile (Watching serves) longest None start None None (Ok end) t → first ≡ first_line t.lines.lasting → HasFirst serves longest s (Ok first)
first_found serves longest s start t end first e f h least =
    (h.0, end, t, subst (λ x. HasReplayed (Watching serves) longest None x h.0 None None (Ok end) t) (unwatched_is s start e f) h.1, least)

-- or they were not
pub first_missed : {S : Type 0} (serves : Serving S) (longest : ℕ) (s : S) (start t : Watched S) (why : JournalFault) → start.server ≡ s → start.lines ≡ no_lines
    → HasReplayedFile (Watching serves) longest None start None None (Err why) t → HasFirst serves longest s (Err why)
first_missed serves longest s start t (fault.BadLine n) e f h =
    (t, subst (λ x. HasBadLine (Watching serves) longest None x n t) (unwatched_is s start e f) h)
first_missed serves longest s start t fault.CannotRead e f h = tt
first_missed serves longest s start t fault.InUse e f h = tt
first_missed serves longest s start t fault.CannotWrite e f h = tt
first_missed serves longest s start t fault.CannotTell e f h = tt
first_missed serves longest s start t fault.NoMemory e f h = tt
