-- Scripts of networks that commands run to their end without printing.
use Rattle.std.specs.Prelude.{◌≡◌, ◌⊎◌, ◌<◌, ℕ, Bool, true, false, not, List, [], length, Option, Some, None, Ok, Err, IfSome}
use Rattle.std.specs.Prelude.{filter, slice_get, if◌then◌else◌}
use Rattle.std.specs.List.{enumerate_from}
use Rattle.line_script.specs.Script.{AreLines, Bytes, is_no_record}
use Rattle.line_script.specs.Runs.{Refusing, Runs, Telling}
use Rattle.line_script.specs.declared.run.Stop.{Stop}
use Rattle.line_script.specs.declared.run.Stop.TheVariants as stop
use Rattle.line_run.specs.Hosting.{new_hosting}
use Rattle.line_run.specs.Unprinted.{IsFinishedUnprinted, Unprinted, RefusesUnprinted, TellsUnprinted}
use Rattle.line_run.specs.Submitting.{IsComplete, RefusesToSubmit, Submits, Submitting, new_submitting}

-- all lines of a text are run in order, and none is bad
pub record HaveRun {S : Type 0} (tells : Telling S) (refuses : Refusing S) (start : S) (text : Bytes) (end : S)
    : Type 0 where
  pub lines : List Bytes
  pub printed : Bytes
  pub are_lines : AreLines text lines
  pub ran : Runs tells refuses start (enumerate_from 1 lines) printed (Ok tt) end

-- the text is that of a file, if that is known
abbrev pub IsTextOf : Option Bytes → Bytes → Type 0
IsTextOf file text = IfSome file (λ left. text ≡ left)

-- all lines of a file are run in order, none is bad, and the run is finished after the last one
pub record HasRunFile {S : Type 0} (tells : Telling S) (refuses : Refusing S) (start : S) (finishes : S → S → Type 0)
    (file : Option Bytes) (end : S) : Type 0 where
  pub text : Bytes
  pub is_text : IsTextOf file text
  pub last : S
  pub ran : HaveRun tells refuses start text last
  pub finished : finishes last end

-- the most bytes that a script may have: 64 MiB
abbrev pub longest_script : ℕ
longest_script = 67108864

-- run in order, the line of a text with this number is the first that is bad
pub record IsFirstBadLine {S : Type 0} (tells : Telling S) (refuses : Refusing S) (start : S) (text : Bytes) (n : ℕ)
    : Type 0 where
  pub lines : List Bytes
  pub printed : Bytes
  pub end : S
  pub are_lines : AreLines text lines
  pub ran : Runs tells refuses start (enumerate_from 1 lines) printed (Err (stop.BadLine n)) end

-- what is known of a file whose run stopped so: it is too long, or this line is the first that is bad. Reads, writes
-- and memory may fail whatever it holds.
abbrev pub HasStopped : {S : Type 0} → Telling S → Refusing S → S → Option Bytes → Stop → Type 0
HasStopped tells refuses start file stop.TooLong = IfSome file (λ left. longest_script < length left)
HasStopped tells refuses start file (stop.BadLine n) =
    (text : Bytes) × IsTextOf file text × IsFirstBadLine tells refuses start text n
HasStopped tells refuses start file stop.CannotRead = Unit {0}
HasStopped tells refuses start file stop.NoMemory = Unit {0}
HasStopped tells refuses start file stop.CannotWrite = Unit {0}

-- ---- for what becomes of the networks

-- the networks after a script, and the text that is kept of it
pub record Story : Type 0 where
  pub run : Unprinted
  pub text : Bytes

-- what a script begins with: no network, and the trace of the lines if it is asked for
abbrev pub start_of : Bool → Unprinted
start_of traced = record { hosting = new_hosting; trace = if traced then Some [] else None }

-- the lines of a text are run in order, and after the last one the networks that are declared with nodes have joined
pub record HasEnded (start : Unprinted) (text : Bytes) (end : Unprinted) : Type 0 where
  pub last : Unprinted
  pub ran : HaveRun TellsUnprinted RefusesUnprinted start text last
  pub finished : IsFinishedUnprinted last end

-- a file is a script, which is run to this end
pub record IsEndOfFile (traced : Bool) (file : Option Bytes) (end : Unprinted) : Type 0 where
  pub text : Bytes
  pub is_text : IsTextOf file text
  pub ended : HasEnded (start_of traced) text end

-- a file is the script, which is run to its end, and is kept if its lines are traced
abbrev pub IsStoryOf : Bool → Option Bytes → Story → Type 0
IsStoryOf false file story = IsEndOfFile false file story.run
IsStoryOf true file story = IsTextOf file story.text × HasEnded (start_of true) story.text story.run

-- a run of the networks of a file stopped so, without printing
abbrev pub StopsStory : Bool → Option Bytes → Stop → Type 0
StopsStory traced = HasStopped TellsUnprinted RefusesUnprinted (start_of traced)

-- the run of the networks of one of two files stopped so; the second is run if the first came to its end
abbrev pub StopsStories : Bool → Option Bytes → Option Bytes → Stop → Type 0
StopsStories traced one other why =
    StopsStory traced one why ⊎ ((first : Story) × IsStoryOf traced one first × StopsStory traced other why)

-- the line with a number, counted from 0, among those of a text that are run: neither empty lines nor comments are
abbrev pub IsLineOf : Bytes → ℕ → Option (ℕ × Bytes) → Type 0
IsLineOf text k line =
    (lines : List Bytes) × AreLines text lines
    × (line ≡ slice_get (filter (λ l. not (is_no_record l.1)) (enumerate_from 1 lines)) k)

-- the line that an entry comes from
abbrev pub IsLineAt : Bytes → Option ℕ → Option (ℕ × Bytes) → Type 0
IsLineAt text None line = line ≡ None
IsLineAt text (Some k) line = IsLineOf text k line

-- ---- for what is submitted, if lines may close slots or may not

-- the lines of a file are run in order, and after the last one the networks that are declared with nodes have been
-- declared
abbrev pub IsSubmittedBy : Bool → Option Bytes → Submitting → Type 0
IsSubmittedBy closing = HasRunFile Submits RefusesToSubmit (new_submitting closing) IsComplete

-- a run of a file for what it submits stopped so
abbrev pub StopsSubmission : Bool → Option Bytes → Stop → Type 0
StopsSubmission closing = HasStopped Submits RefusesToSubmit (new_submitting closing)

-- the run of one of two files for what it submits stopped so; the second is run if the first came to its end
abbrev pub StopsSubmissions : Option Bytes → Option Bytes → Stop → Type 0
StopsSubmissions one other why =
    StopsSubmission true one why
    ⊎ ((first : Submitting) × IsSubmittedBy true one first × StopsSubmission true other why)
