-- What is done for the lines of a live host, and what a stop may leave of its journal.
use Rattle.std.specs.Prelude.{◌≡◌, ◌++◌, ◌==◌, ℕ, Bool, true, false, List, [], ◌∷◌, Option, Some, None, if◌then◌else◌}
use Rattle.line_script.specs.Script.{Bytes}

-- what is done at a file: bytes are put behind what it has; all that it has is brought to the disk; or bytes are told
pub data Act : Type 0 where
  Wrote : Bytes → Act
  Synced : Act
  Told : Bytes → Act

-- these acts were done since, if it was known what was done before
abbrev pub Did : Option (List Act) → Option (List Act) → List Act → Type 0
Did None new acts = Unit {0}
Did (Some before) None acts = ⊥
Did (Some before) (Some after) acts = after ≡ before ++ acts

-- a line and its line feed (10) were written; or a beginning of the line was
abbrev pub WroteLine : Bool → Bytes → Option (List Act) → Option (List Act) → Type 0
WroteLine true line old new = Did old new (Wrote (line ++ 10 ∷ []) ∷ [])
WroteLine false line old new = (part rest : Bytes) × (line ≡ part ++ rest) × Did old new (Wrote part ∷ [])

-- what was written is on the disk; or that is not known
abbrev pub SyncedIf : Bool → Option (List Act) → Option (List Act) → Type 0
SyncedIf true old new = Did old new (Synced ∷ [])
SyncedIf false old new = Did old new []

-- all that was told, in order
abbrev pub told_by : List Act → Bytes
told_by [] = []
told_by (Told text ∷ acts) = text ++ told_by acts
told_by (Wrote bytes ∷ acts) = told_by acts
told_by (Synced ∷ acts) = told_by acts

-- ---- the disk

-- what is on the disk of a file, and what the file has behind that
pub record Disk : Type 0 where
  pub safe : Bytes
  pub tail : Bytes

-- a file whose bytes are all on the disk
abbrev pub settled : Bytes → Disk
settled bytes = record { safe = bytes; tail = [] }

abbrev pub disk_after : Disk → List Act → Disk
disk_after d [] = d
disk_after d (Wrote bytes ∷ acts) = disk_after (record d { tail = d.tail ++ bytes }) acts
disk_after d (Synced ∷ acts) = disk_after (settled (d.safe ++ d.tail)) acts
disk_after d (Told text ∷ acts) = disk_after d acts

-- what a stop may make of bytes that are not on the disk: each is as it was written, or 0, or the file ends before it
pub data Tears : Bytes → Bytes → Type 0 where
  ends : {bytes : Bytes} → Tears bytes []
  stays : {b : ℕ} {bytes left : Bytes} → Tears bytes left → Tears (b ∷ bytes) (b ∷ left)
  hole : {b : ℕ} {bytes left : Bytes} → Tears bytes left → Tears (b ∷ bytes) (0 ∷ left)

-- what a stop may leave of a file
abbrev pub MayLeave : Disk → Bytes → Type 0
MayLeave d file = (rest : Bytes) × (file ≡ d.safe ++ rest) × Tears d.tail rest

-- ---- what a start runs

-- behind the beginning of a line, the lines up to the first that has a byte 0 in it or lacks its line feed (10)
abbrev pub lines_behind : Bytes → Bytes → List Bytes
lines_behind line [] = []
lines_behind line (b ∷ more) =
    if b == 10 then line ∷ lines_behind [] more else if b == 0 then [] else lines_behind (line ++ b ∷ []) more

-- the lines of a file before its end, which are those that a start runs
abbrev pub lines_run : Bytes → List Bytes
lines_run file = lines_behind [] file
