-- How the lines of a live host are served while its journal is kept, and what a stop at any moment leaves.
use Rattle.std.specs.Prelude.{◌≡◌, ◌++◌, ◌+◌, ◌^◌, ℕ, List, [], ◌∷◌, length, Option, Result, Ok, Err, IfSome, IsTrue}
use Rattle.std.specs.List.{list_all}
use Rattle.std.specs.Io.KnownBytes.{Appends, IsAtEnd}
use Rattle.line_script.specs.Script.{Bytes, has_no_feed, lines_with_feeds}
use Rattle.live_feed.specs.WholeLines.{AreWholeLines, BeginsWithLines, given, is_whole_line}
use Rattle.live_feed.specs.Served.{LineReply, ServesAll, Serving, journal_line}
use Rattle.live_feed.specs.Acts.{Act, Did, MayLeave, disk_after, lines_run, settled, told_by}
use Rattle.live_feed.specs.Acts.Act.{Synced, Told, Wrote}
use Rattle.live_feed.specs.declared.fault.Fault.{Fault}
use Rattle.live_feed.specs.declared.fault.Fault.TheVariants as fault

-- Lines were served from a state on, the first with this number, and these acts were done for them. Each line is
-- served, and its line in the journal written. What waits to be told is told once all that was written is on the disk.
-- If a line could not be written, a part may stand behind the others, and no line follows.
pub data Hosts {S : Type 0} (serves : Serving S) (longest : ℕ) (s : S) (n : ℕ)
    : List Bytes → List Act → Bytes → Bytes → S → Type 0 where
  begins : Hosts serves longest s n [] [] [] [] s
  serves_line : {lines : List Bytes} {acts : List Act} {waits : Bytes} {t u : S} (line : Bytes) (a : LineReply)
      → Hosts serves longest s n lines acts [] waits t → IsTrue (has_no_feed line)
      → serves t (n + length lines) (given longest line) a u
      → Hosts serves longest s n (lines ++ line ∷ []) (acts ++ Wrote (journal_line (given longest line) a ++ 10 ∷ []) ∷ [])
      [] (waits ++ a.text) u
  writes_part : {lines : List Bytes} {acts : List Act} {waits : Bytes} {t : S} (part : Bytes)
      → Hosts serves longest s n lines acts [] waits t → IsTrue (has_no_feed part)
      → Hosts serves longest s n lines (acts ++ Wrote part ∷ []) part waits t
  tells : {lines : List Bytes} {acts : List Act} {part waits : Bytes} {t : S}
      → Hosts serves longest s n lines acts part waits t
      → Hosts serves longest s n lines ((acts ++ Synced ∷ []) ++ Told waits ∷ []) part [] t

-- ---- a stop

-- A stop at the moment when these had been done left this file. A start runs the lines that the journal had before, and
-- then the lines of the journal that stand for a beginning of what was read. To this beginning belongs each line of
-- which anything was told. Run again, they may lead to the state to which they led.
pub record Survives {S : Type 0} (serves : Serving S) (longest : ℕ) (s : S) (n : ℕ) (before lines : List Bytes)
    (done : List Act) (file : Bytes) : Type 0 where
  pub first : List Bytes
  pub next : List Bytes
  pub rest : List Bytes
  pub journal : List Bytes
  pub more : List Bytes
  pub text : Bytes
  pub again : Bytes
  pub now : S
  pub later : S
  pub parts : lines ≡ first ++ (next ++ rest)
  pub told : ServesAll serves longest s n first journal (told_by done) now
  pub untold : ServesAll serves longest now (n + length first) next more text later
  pub runs : lines_run file ≡ before ++ (journal ++ more)
  pub replays : ServesAll serves longest s n (journal ++ more) (journal ++ more) again later

-- If the journal was on the disk before, what is read survives a stop at each moment, by each file that it may leave.
abbrev pub SurvivesStops : {S : Type 0} → Serving S → ℕ → S → ℕ → List Bytes → List Act → Type 0
SurvivesStops serves longest s n lines acts =
    (before : List Bytes) → IsTrue (list_all is_whole_line before) → (done left : List Act) → acts ≡ done ++ left
    → (file : Bytes) → MayLeave (disk_after (settled (lines_with_feeds before)) done) file
    → Survives serves longest s n before lines done file

-- ---- how a stream ends

-- what was told, unless telling failed
abbrev pub IsTold : Result (Unit {0}) Fault → Option Bytes → Option Bytes → List Act → Type 0
IsTold (Ok _) old new acts = Appends old new (told_by acts)
IsTold (Err fault.CannotRead) old new acts = Appends old new (told_by acts)
IsTold (Err fault.TooLong) old new acts = Appends old new (told_by acts)
IsTold (Err fault.NoMemory) old new acts = Appends old new (told_by acts)
IsTold (Err fault.NotAppended) old new acts = Appends old new (told_by acts)
IsTold (Err fault.NotSynced) old new acts = Appends old new (told_by acts)
IsTold (Err fault.CannotWrite) old new acts = Unit {0}

-- these acts were done, and what they told was told, unless telling failed
abbrev pub HasDone : Option (List Act) → Option (List Act) → Option Bytes → Option Bytes → Result (Unit {0}) Fault
    → List Act → Type 0
HasDone before after old new result acts = Did before after acts × IsTold result old new acts

-- these lines were served, and this was done for them and nothing else, which survives a stop at any moment
pub record HasHosted {S : Type 0} (serves : Serving S) (longest : ℕ) (s : S) (n : ℕ) (lines : List Bytes)
    (part waits : Bytes) (t : S) (Doing : List Act → Type 0) : Type 0 where
  pub acts : List Act
  pub hosts : Hosts serves longest s n lines acts part waits t
  pub did : Doing acts
  pub safe : SurvivesStops serves longest s n lines acts

-- how much of what was served may not have been told or written, and whether the state is that which the lines left
abbrev pub IsEndedBy : {S : Type 0} → Fault → ℕ → Bytes → Bytes → S → S → Type 0
IsEndedBy fault.CannotRead m part waits t u = (part ≡ []) × (waits ≡ []) × (t ≡ u)
IsEndedBy fault.TooLong m part waits t u = (part ≡ []) × (waits ≡ []) × (t ≡ u) × (m ≡ 2 ^ 64)
IsEndedBy fault.NoMemory m part waits t u = (part ≡ []) × (waits ≡ [])
IsEndedBy fault.NotAppended m part waits t u = waits ≡ []
IsEndedBy fault.NotSynced m part waits t u = Unit {0}
IsEndedBy fault.CannotWrite m part waits t u = Unit {0}

-- What was sent was served line by line as it came, from a state on. The first line has this number, and this is left
-- of what was sent. At the end all its whole lines were served and told. After a fault, lines with which it begins were
-- served.
abbrev pub HasHostedStream : {S : Type 0} → Serving S → ℕ → S → ℕ → Option Bytes → Option Bytes
    → (Result (Unit {0}) Fault → List Act → Type 0) → Result (Unit {0}) Fault → S → Type 0
HasHostedStream serves longest s n input left did (Ok _) t =
    (lines : List Bytes) × IfSome input (λ text. AreWholeLines text lines × IsAtEnd left)
    × HasHosted serves longest s n lines [] [] t (did (Ok tt))
HasHostedStream {S} serves longest s n input left did (Err why) t =
    (lines : List Bytes) × (part waits : Bytes) × (u : S) × IfSome input (λ text. BeginsWithLines text lines)
    × HasHosted serves longest s n lines part waits u (did (Err why)) × IsEndedBy why (n + length lines) part waits u t
