-- What a run of lines prints, and how it ends.
use Rattle.std.specs.Prelude.{◌≡◌, ◌<◌, ◌++◌, ℕ, List, [], ◌∷◌, length, Option, Some, None, Result, Ok, Err, IfSome}
use Rattle.std.specs.List.{enumerate_from}
use Rattle.std.specs.Io.KnownBytes.{Appends, Keeps}
use Rattle.line_script.specs.Script.{Bytes, AreFields, AreLines, IsBad, IsSkipped}
use Rattle.line_script.specs.declared.run.Stop.{Stop}
use Rattle.line_script.specs.declared.run.Stop.TheVariants as stop

-- what a line may say in a state: the fields tell it to print this, if anything, and to become that
abbrev pub Telling : Type 0 → Type 1
Telling S = S → List Bytes → Option Bytes → S → Type 0

-- the fields are no line in a state
abbrev pub Refusing : Type 0 → Type 1
Refusing S = S → List Bytes → Type 0

-- a law of what runs lines: no line is both bad and told
abbrev pub BadLinesAreUntold : {S : Type 0} → Telling S → Refusing S → Type 0
BadLinesAreUntold {S} tells refuses =
    (old new : S) (fields : List Bytes) (printed : Option Bytes) → refuses old fields → ¬ tells old fields printed new

-- what is printed, with a line feed (10) after it
abbrev pub on_a_line : Option Bytes → Bytes
on_a_line None = []
on_a_line (Some text) = text ++ 10 ∷ []

-- a line is run: it writes this, and leaves that state. One that is skipped writes and changes nothing.
pub data Passes {S : Type 0} (tells : Telling S) : S → Bytes → Bytes → S → Type 0 where
  skipped : {s : S} {line : Bytes} → IsSkipped line → Passes tells s line [] s
  told : {s t : S} {line : Bytes} {fields : List Bytes} {printed : Option Bytes} → ¬ IsSkipped line
      → AreFields line fields → tells s fields printed t
      → Passes tells s line (on_a_line printed) t

-- a line is bad, as one that is skipped never is
pub data LineFails {S : Type 0} (refuses : Refusing S) : S → Bytes → Type 0 where
  no_fields : {s : S} {line : Bytes} → IsBad line → LineFails refuses s line
  refused : {s : S} {line : Bytes} {fields : List Bytes} → ¬ IsSkipped line → AreFields line fields
      → refuses s fields
      → LineFails refuses s line

-- a run of numbered lines: what it writes, how it ends and the state that it leaves. It goes on to the first bad line,
-- and names it. It may be out of memory at any line, or behind the last, and ends there. After a bad line, and out of
-- memory, nothing is said of the state.
pub data Runs {S : Type 0} (tells : Telling S) (refuses : Refusing S) : S → List (ℕ × Bytes) → Bytes → Result
    (Unit {0}) Stop → S → Type 0 where
  ends : {s : S} → Runs tells refuses s [] [] (Ok tt) s
  next : {s t u : S} {n : ℕ} {line : Bytes} {more : List (ℕ × Bytes)} {written others : Bytes} {end : Result (Unit {0}) Stop}
      → Passes tells s line written t → Runs tells refuses t more others end u
      → Runs tells refuses s ((n, line) ∷ more) (written ++ others) end u
  bad : {s t : S} {n : ℕ} {line : Bytes} {more : List (ℕ × Bytes)} → LineFails refuses s line
      → Runs tells refuses s ((n, line) ∷ more) [] (Err (stop.BadLine n)) t
  short : {s t : S} {lines : List (ℕ × Bytes)} → Runs tells refuses s lines [] (Err stop.NoMemory) t

-- the lines of a text were run, and a writer took what they print
pub record HasRun {S : Type 0} (tells : Telling S) (refuses : Refusing S) (s : S) (text : Bytes)
    (old new : Option Bytes) (end : Result (Unit {0}) Stop) (t : S) : Type 0 where
  pub lines : List Bytes
  pub printed : Bytes
  pub are_lines : AreLines text lines
  pub ran : Runs tells refuses s (enumerate_from 1 lines) printed end t
  pub written : Appends old new printed

-- one numbered line was run so, and a writer took what it prints
abbrev pub HasRunLine : {S : Type 0} → Telling S → Refusing S → S → ℕ → Bytes → Option Bytes → Option Bytes
    → Result (Unit {0}) Stop → S → Type 0
HasRunLine tells refuses s n line old new (Ok _) t =
    (written : Bytes) × Passes tells s line written t × Appends old new written
HasRunLine tells refuses s n line old new (Err (stop.BadLine m)) t = (m ≡ n) × LineFails refuses s line × Keeps old new
HasRunLine tells refuses s n line old new (Err stop.NoMemory) t = Keeps old new
HasRunLine tells refuses s n line old new (Err stop.CannotWrite) t = Unit {0}
HasRunLine tells refuses s n line old new (Err stop.CannotRead) t = ⊥
HasRunLine tells refuses s n line old new (Err stop.TooLong) t = ⊥

-- a text was run so; if a write failed, nothing is said
abbrev pub HasRunText : {S : Type 0} → Telling S → Refusing S → S → Bytes → Option Bytes → Option Bytes
    → Result (Unit {0}) Stop → S → Type 0
HasRunText tells refuses s text old new (Ok r) t = HasRun tells refuses s text old new (Ok r) t
HasRunText tells refuses s text old new (Err (stop.BadLine n)) t =
    HasRun tells refuses s text old new (Err (stop.BadLine n)) t
HasRunText tells refuses s text old new (Err stop.NoMemory) t =
    HasRun tells refuses s text old new (Err stop.NoMemory) t
HasRunText tells refuses s text old new (Err stop.CannotWrite) t = Unit {0}
HasRunText tells refuses s text old new (Err stop.CannotRead) t = ⊥
HasRunText tells refuses s text old new (Err stop.TooLong) t = ⊥

-- a script was run so, and it is this text if that is known. One that could not be read, or that has more bytes than
-- the limit, ran no line.
abbrev pub HasRunScript : {S : Type 0} → ℕ → Telling S → Refusing S → S → Option Bytes → Option Bytes → Option Bytes
    → Result (Unit {0}) Stop → S → Type 0
HasRunScript limit tells refuses s script old new (Err stop.CannotRead) t = Keeps old new × (t ≡ s)
HasRunScript limit tells refuses s script old new (Err stop.TooLong) t =
    IfSome script (λ left. limit < length left) × Keeps old new × (t ≡ s)
HasRunScript limit tells refuses s script old new end t =
    (text : Bytes) × IfSome script (λ left. text ≡ left) × HasRunText tells refuses s text old new end t
