-- One step of a live host's loop.
use Rattle.std.specs.Prelude.{◌≡◌, ◌⊎◌, ◌++◌, ◌+◌, ◌^◌, ℕ, Bool, List, [], ◌∷◌, Option, Result, Ok, Err}
use Rattle.std.specs.Io.KnownBytes.{Appends, Keeps}
use Rattle.line_script.specs.Script.{Bytes}
use Rattle.live_feed.specs.Served.{LineReply, Serving, journal_line, kept_as}
use Rattle.live_feed.specs.Acts.{Act, Did}
use Rattle.live_feed.specs.Acts.Act.{Synced, Told, Wrote}
use Rattle.live_feed.specs.declared.fault.Fault.{Fault}
use Rattle.live_feed.specs.declared.fault.Fault.TheVariants as fault

-- the line behind this many was answered and written; or why not
abbrev pub HasServedLine : {S : Type 0} → Serving S → S → ℕ → Option Bytes → Bytes → Option (List Act) → Option (List Act)
    → Result (Unit {0}) Fault → Bytes → ℕ → S → Type 0
HasServedLine serves s c given waits old new (Ok _) now d t =
    (a : LineReply) × serves s (c + 1) given a t × (now ≡ waits ++ a.text) × (d ≡ c + 1)
    × Did old new (Wrote (journal_line given a ++ 10 ∷ []) ∷ [])
HasServedLine serves s c given waits old new (Err fault.TooLong) now d t =
    (now ≡ waits) × Did old new [] × (t ≡ s) × (c + 1 ≡ 2 ^ 64)
HasServedLine serves s c given waits old new (Err fault.NoMemory) now d t = (now ≡ waits) × Did old new []
HasServedLine serves s c given waits old new (Err fault.NotAppended) now d t =
    (now ≡ waits) × ((kept : Bool) × (part rest : Bytes) × (kept_as given kept ≡ part ++ rest) × Did old new (Wrote part ∷ []))
HasServedLine serves s c given waits old new (Err fault.CannotRead) now d t = ⊥
HasServedLine serves s c given waits old new (Err fault.NotSynced) now d t = ⊥
HasServedLine serves s c given waits old new (Err fault.CannotWrite) now d t = ⊥

-- lines behind this many were answered and written one after the other, until one was not
abbrev pub HasServedLines : {S : Type 0} → Serving S → S → ℕ → List (Option Bytes) → Bytes → Option (List Act)
    → Option (List Act) → Result (Unit {0}) Fault → Bytes → ℕ → S → Type 0
HasServedLines serves s c [] waits old new result later e u =
    (result ≡ Ok tt) × (later ≡ waits) × (new ≡ old) × (e ≡ c) × (u ≡ s)
HasServedLines {S} serves s c (given ∷ lines) waits old new result later e u =
    ((now : Bytes) × (d : ℕ) × (mid : Option (List Act)) × (t : S) × HasServedLine serves s c given waits old mid (Ok tt) now d t
    × HasServedLines serves t d lines now mid new result later e u)
    ⊎ ((why : Fault) × (result ≡ Err why) × HasServedLine serves s c given waits old new (Err why) later e u)

-- the answers that wait were told once the journal was on the disk; or why not
abbrev pub HasTold : Bytes → Option (List Act) → Option (List Act) → Option Bytes → Option Bytes → Result (Unit {0}) Fault
    → Bytes → Type 0
HasTold waits before after old new (Ok _) now =
    (now ≡ []) × Did before after (Synced ∷ Told waits ∷ []) × Appends old new waits
HasTold waits before after old new (Err fault.NotSynced) now = Did before after [] × Keeps old new
HasTold waits before after old new (Err fault.CannotWrite) now = Did before after (Synced ∷ Told waits ∷ [])
HasTold waits before after old new (Err fault.CannotRead) now = ⊥
HasTold waits before after old new (Err fault.TooLong) now = ⊥
HasTold waits before after old new (Err fault.NoMemory) now = ⊥
HasTold waits before after old new (Err fault.NotAppended) now = ⊥
