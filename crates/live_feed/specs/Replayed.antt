-- The lines of a journal are answered again.
use Rattle.std.specs.Prelude.{◌≡◌, ◌++◌, ◌+◌, ◌⊎◌, ℕ, Bool, true, false, List, [], ◌∷◌, length, Option, Some, None, Result, Ok, Err, IfSome, nat_le}
use Rattle.std.specs.Io.KnownBytes.{Appends}
use Rattle.line_script.specs.Script.{Bytes, lines_with_feeds}
use Rattle.line_script.specs.declared.run.Stop.{Stop}
use Rattle.line_script.specs.declared.run.Stop.TheVariants as stop
use Rattle.live_feed.specs.WholeLines.{BeginsWithLines, given}
use Rattle.live_feed.specs.Served.{LineReply, ServesAll, Serving, is_kept, unanswered}
use Rattle.live_feed.specs.Acts.{lines_run}
use Rattle.live_feed.specs.declared.replaying.JournalEnd.{JournalEnd}

-- a line with this number is told: lines are told from a given one on, or none is
abbrev pub is_told : Option ℕ → ℕ → Bool
is_told None n = false
is_told (Some first) n = nat_le first n

-- a text if it is to be told, else nothing
abbrev pub told_if : Bool → Bytes → Bytes
told_if true text = text
told_if false text = []

-- the line is one of a journal: it is kept, or it is not answered
abbrev pub IsJournalReply : LineReply → Type 0
IsJournalReply a = (is_kept a ≡ true) ⊎ (a ≡ unanswered)

-- a line is answered as it was, if it is one of a journal; the answer is told only from that line on
abbrev pub Replaying : {S : Type 0} → Option ℕ → Serving S → Serving S
Replaying from serves s n line told t =
    (a : LineReply) × serves s n line a t × IsJournalReply a × (told ≡ record { text = told_if (is_told from n) a.text; done = a.done })

-- a line is none of a journal: it is too long, or its answer says that it is not kept
abbrev pub IsNoLine : {S : Type 0} → Serving S → S → ℕ → Option Bytes → Type 0
IsNoLine {S} serves s n None = Unit {0}
IsNoLine {S} serves s n (Some line) = (a : LineReply) × (t : S) × serves s n (Some line) a t × (is_kept a ≡ false)

-- one line was answered again, and the journal ends behind it; or why not
abbrev pub HasReplayedLine : {S : Type 0} → Serving S → Option ℕ → S → JournalEnd → Option Bytes → Option Bytes → Option Bytes
    → Result JournalEnd Stop → S → Type 0
HasReplayedLine serves from s end given old new (Ok now) t =
    (line : Bytes) × (told : LineReply) × (given ≡ Some line) × Replaying from serves s (end.lines + 1) (Some line) told t
    × Appends old new told.text × (now.lines ≡ end.lines + 1) × (now.bytes ≡ end.bytes + length line + 1)
HasReplayedLine serves from s end given old new (Err (stop.BadLine n)) t =
    (n ≡ end.lines + 1) × IsNoLine serves s n given
HasReplayedLine serves from s end given old new (Err stop.CannotRead) t = Unit {0}
HasReplayedLine serves from s end given old new (Err stop.TooLong) t = Unit {0}
HasReplayedLine serves from s end given old new (Err stop.NoMemory) t = Unit {0}
HasReplayedLine serves from s end given old new (Err stop.CannotWrite) t = Unit {0}

-- lines were answered again one after the other, and the journal ends behind them; or one was not
abbrev pub HasReplayedLines : {S : Type 0} → Serving S → Option ℕ → S → JournalEnd → List (Option Bytes) → Option Bytes
    → Option Bytes → Result JournalEnd Stop → S → Type 0
HasReplayedLines serves from s end [] old new result t = (result ≡ Ok end) × (new ≡ old) × (t ≡ s)
HasReplayedLines {S} serves from s end (given ∷ lines) old new result t =
    ((now : JournalEnd) × (mid : Option Bytes) × (u : S) × HasReplayedLine serves from s end given old mid (Ok now) u
    × HasReplayedLines serves from u now lines mid new result t)
    ⊎ ((why : Stop) × (result ≡ Err why) × (u : S) × HasReplayedLine serves from s end given old new (Err why) u)

-- these are the lines that a start runs of a file
abbrev pub AreRun : Option Bytes → List Bytes → Type 0
AreRun file lines = IfSome file (λ bytes. BeginsWithLines bytes lines × (lines_run bytes ≡ lines))

-- these are the first of them, and this is the next
abbrev pub AreRunBefore : Option Bytes → List Bytes → Bytes → Type 0
AreRunBefore file lines line =
    IfSome file (λ bytes. (more : List Bytes) × (lines_run bytes ≡ lines ++ line ∷ more))

-- The lines of a journal before its end were answered again, one after the other, from the number 1 on. It is told
-- where it ends. Or a line is none of a journal, behind lines that are; of other faults nothing is said.
abbrev pub HasReplayed : {S : Type 0} → Serving S → ℕ → Option ℕ → S → Option Bytes → Option Bytes → Option Bytes
    → Result JournalEnd Stop → S → Type 0
HasReplayed serves longest from s file old new (Ok end) t =
    (lines journal : List Bytes) × (text : Bytes) × AreRun file lines
    × ServesAll (Replaying from serves) longest s 1 lines journal text t × Appends old new text
    × (end.lines ≡ length lines) × (end.bytes ≡ length (lines_with_feeds lines))
HasReplayed {S} serves longest from s file old new (Err (stop.BadLine n)) t =
    (lines journal : List Bytes) × (text line : Bytes) × (u : S) × AreRunBefore file lines line
    × ServesAll (Replaying from serves) longest s 1 lines journal text u
    × (n ≡ length lines + 1) × IsNoLine serves u n (given longest line)
HasReplayed serves longest from s file old new (Err stop.CannotRead) t = Unit {0}
HasReplayed serves longest from s file old new (Err stop.TooLong) t = Unit {0}
HasReplayed serves longest from s file old new (Err stop.NoMemory) t = Unit {0}
HasReplayed serves longest from s file old new (Err stop.CannotWrite) t = Unit {0}
