-- What a run of a script does that is read as it comes.
use Rattle.std.specs.Prelude.{◌≡◌, ◌++◌, ◌⊎◌, ◌<◌, ◌≤◌, ℕ, false, [], length, Option, Result, Ok, Err, IfSome}
use Rattle.std.specs.Io.{StopsAt}
use Rattle.std.specs.Io.BufRead.{ends_with_byte}
use Rattle.std.specs.Io.KnownBytes.{Consumes, IsAtEnd}
use Rattle.line_script.specs.Script.{Bytes, text_with_last_feed}
use Rattle.line_script.specs.Runs.{Telling, Refusing, HasRun}
use Rattle.line_script.specs.declared.run.Stop.{Stop}
use Rattle.line_script.specs.declared.run.Stop.TheVariants as stop

-- the next bytes of a reader: up to its next line feed (10) or, without one, to its end
pub record IsNext (old new : Option Bytes) (bytes : Bytes) : Type 0 where
  pub consumed : Consumes old new bytes
  pub one : StopsAt bytes 10
  pub last : ends_with_byte 10 bytes ≡ false → IfSome old (λ _. IsAtEnd new)

-- each line of the text ends with a line feed
abbrev pub IsWhole : Bytes → Type 0
IsWhole text = text_with_last_feed text ≡ text

-- the text is a front of a script: whole lines, or the whole script
pub record IsFrontOf (text script : Bytes) : Type 0 where
  pub rest : Bytes
  pub parts : script ≡ text ++ rest
  pub whole : IsWhole text ⊎ (rest ≡ [])

-- what was read is lines of a script, all of which were run
abbrev pub HasRunFront : {S : Type 0} → ℕ → Telling S → Refusing S → S → Option Bytes → Option Bytes → Option Bytes → S
    → Type 0
HasRunFront limit tells refuses s script old new t =
    (text : Bytes) × IfSome script (λ left. IsFrontOf text left) × (length text ≤ limit) × IsWhole text
    × HasRun tells refuses s text old new (Ok tt) t

-- a run ended early, at what was read
abbrev pub HasRunRead : {S : Type 0} → ℕ → Telling S → Refusing S → S → Option Bytes → Option Bytes → Option Bytes
    → Stop → S → Type 0
HasRunRead limit tells refuses s script old new why t =
    (text : Bytes) × IfSome script (λ left. IsFrontOf text left) × (length text ≤ limit)
    × HasRun tells refuses s text old new (Err why) t

-- a script of at most this many bytes was run line by line as it was read. If a read failed, or the script is longer,
-- the lines before were run. If a write failed, nothing is said.
abbrev pub HasRunStream : {S : Type 0} → ℕ → Telling S → Refusing S → S → Option Bytes → Option Bytes → Option Bytes
    → Result (Unit {0}) Stop → S → Type 0
HasRunStream limit tells refuses s script old new (Ok r) t =
    (text : Bytes) × IfSome script (λ left. text ≡ left) × (length text ≤ limit)
    × HasRun tells refuses s text old new (Ok r) t
HasRunStream limit tells refuses s script old new (Err (stop.BadLine n)) t =
    HasRunRead limit tells refuses s script old new (stop.BadLine n) t
HasRunStream limit tells refuses s script old new (Err stop.NoMemory) t =
    HasRunRead limit tells refuses s script old new stop.NoMemory t
HasRunStream limit tells refuses s script old new (Err stop.CannotWrite) t = Unit {0}
HasRunStream limit tells refuses s script old new (Err stop.CannotRead) t =
    HasRunFront limit tells refuses s script old new t
HasRunStream limit tells refuses s script old new (Err stop.TooLong) t =
    IfSome script (λ left. limit < length left) × HasRunFront limit tells refuses s script old new t
