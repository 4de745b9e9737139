-- What the commands print, and how they end.
use Rattle.std.specs.Prelude.{◌≡◌, ◌⊎◌, ℕ, Bool, false, true, [], Option, Some, None, Result, Ok, Err, string_bytes}
use Rattle.std.specs.Io.KnownBytes.{Appends, Keeps}
use Rattle.line_script.specs.Script.{Bytes}
use Rattle.line_script.specs.Runs.{HasRunScript, Refusing, Telling}
use Rattle.line_script.specs.Streams.{HasRunStream}
use Rattle.line_script.specs.declared.run.Stop.{Stop}
use Rattle.line_script.specs.declared.run.Stop.TheVariants as stop
use Rattle.line_table.specs.TableLines
use Rattle.line_run.specs.Hosting.{new_hosting}
use Rattle.line_run.specs.Running
use Rattle.line_run.specs.Submitting.{Submitting}
use Rattle.pool_script.specs.Pooling.{IsPoolText}
use Rattle.line_run.specs.Comparisons.{IsComparison}
use Rattle.line_run.specs.Crowding.{TellsCrowd}
use Rattle.scphost.specs.Hosting.{HasMadeShorter, HasServed}
use Rattle.scphost.specs.Reporting.{IsReport}
use Rattle.scphost.specs.Translating.{IsDecoding, IsEncoding, StopsDecoding, StopsEncoding}
use Rattle.line_run.specs.Scripts.{IsStoryOf, IsSubmittedBy, Story, longest_script}
use Rattle.line_run.specs.Scripts.{StopsStories, StopsStory, StopsSubmission, StopsSubmissions}
use Rattle.scphost.specs.Stops.{End, IsEndOf}
use Rattle.line_run.specs.declared.answer.Answer.{Answer}
use Rattle.scphost_words.specs.declared.call.Call.{Call}
use Rattle.scphost_words.specs.declared.call.Call.TheVariants.{Table, Run, Closure, Compare, Crowd, Serve, Compact, Encode, Decode}
use Rattle.scphost_words.specs.declared.call.Usage.{Usage}
use Rattle.scphost_words.specs.declared.call.Usage.TheVariants.{Help, Bad, NoMemory}
use Rattle.scphost_words.specs.declared.subject.Format.{Format}
use Rattle.scp_types.specs.declared.subject.Subject.{Subject}

-- the whole answer is written, and told whether it is a difference; or a write failed
abbrev pub IsPrinted : Answer → Option Bytes → Option Bytes → End → Type 0
IsPrinted a old new end =
    ((end ≡ Ok a.differs) × Appends old new (string_bytes a.text)) ⊎ (end ≡ Err stop.CannotWrite)

-- nothing is written, for one of these reasons, which is told; or a write failed
abbrev pub IsGivenUp : (Stop → Type 0) → Option Bytes → Option Bytes → End → Type 0
IsGivenUp Why old new end =
    ((why : Stop) × Why why × (end ≡ Err why) × Keeps old new) ⊎ (end ≡ Err stop.CannotWrite)

-- an answer of this kind is printed, or none is, for one of these reasons; or a write failed
abbrev pub HasAnswered : (Answer → Type 0) → (Stop → Type 0) → Option Bytes → Option Bytes → End → Type 0
HasAnswered P Why old new end = ((a : Answer) × P a × IsPrinted a old new end) ⊎ IsGivenUp Why old new end

-- the answer is the report of a node after a script
abbrev pub IsReported : Format → Subject → Option Bytes → Answer → Type 0
IsReported format subject script a =
    (story : Story) × IsStoryOf false script story × IsReport format subject story.run.hosting.logs a

-- the answer compares what becomes of the networks of two scripts, in this order
abbrev pub IsCompared : Bool → Subject → Option Bytes → Option Bytes → Answer → Type 0
IsCompared explain subject one other a = (first second : Story) × IsStoryOf explain one first
    × IsStoryOf explain other second
    × IsComparison first.run.hosting.logs second.run.hosting.logs subject.net subject.slot subject.node explain a

-- the answer compares what two scripts submit, in this order
abbrev pub IsCrowdAnswer : Subject → Option Bytes → Option Bytes → Answer → Type 0
IsCrowdAnswer subject one other a = (first second : Submitting) × IsSubmittedBy true one first × IsSubmittedBy true other second
    × TellsCrowd first.history second.history subject a

-- the answer tells what became of the networks of a script whose events were jobs of workers
abbrev pub IsPooled : Option Bytes → Answer → Type 0
IsPooled script a =
    (run : Submitting) × IsSubmittedBy false script run × (a.differs ≡ false)
    × IsPoolText run.history.configs run.history.calls (string_bytes a.text)

-- the lines of a script are run in order, from this state on, and what they print is written; it is told how the run
-- ended
abbrev pub HasRunLines : {S : Type 0} → Telling S → Refusing S → S → Option Bytes → Option Bytes → Option Bytes → End
    → Type 0
HasRunLines {S = S} tells refuses start script old new end =
    (ran : Result (Unit {0}) Stop) × (last : S) × IsEndOf ran end
    × HasRunScript longest_script tells refuses start script old new ran last

-- whether a call names the files that it reads
abbrev pub names_files : Call → Bool
names_files (Serve asked) = false
names_files (Encode asked) = false
names_files (Decode digits) = false
names_files _ = true

-- what `run` does with a script: its lines are run in order, or they are jobs of workers, however many
abbrev pub IsRunOn : Option ℕ → Option Bytes → Option Bytes → Option Bytes → End → Type 0
IsRunOn None script old new end = HasRunLines Running.Tells Running.RefusesLine new_hosting script old new end
IsRunOn (Some workers) script old new end = HasAnswered (IsPooled script) (StopsSubmission false script) old new end

-- What a call does with its files: it runs the lines of one, prints the answer, or makes one shorter. What is about one
-- envelope has none, and `serve` is not performed so.
abbrev pub IsPerformed : Call → Option Bytes → Option Bytes → Option Bytes → Option Bytes → End → Type 0
IsPerformed (Table asked) first second old new end =
    HasRunLines TableLines.TellsListener TableLines.RefusesTableLine None first old new end
IsPerformed (Run asked) first second old new end = IsRunOn asked.workers first old new end
IsPerformed (Closure asked) first second old new end =
    HasAnswered (IsReported asked.format asked.subject first) (StopsStory false first) old new end
IsPerformed (Compare asked) first second old new end =
    HasAnswered (IsCompared asked.explain asked.subject first second) (StopsStories asked.explain first second) old new end
IsPerformed (Crowd asked) first second old new end =
    HasAnswered (IsCrowdAnswer asked.subject first second) (StopsSubmissions first second) old new end
IsPerformed (Serve asked) first second old new end = ⊥
IsPerformed (Compact file) first second old new end = HasMadeShorter first old new end
IsPerformed (Encode asked) first second old new end = HasAnswered (IsEncoding asked) (StopsEncoding asked) old new end
IsPerformed (Decode digits) first second old new end =
    HasAnswered (IsDecoding digits) (StopsDecoding digits) old new end

-- the lines of a script are run, each of which is answered before the next one is read; it is told how the run ended
abbrev pub HasRunAsTheyCome : {S : Type 0} → Telling S → Refusing S → S → Option Bytes → Option Bytes → Option Bytes
    → End → Type 0
HasRunAsTheyCome {S = S} tells refuses start input old new end =
    (ran : Result (Unit {0}) Stop) × (last : S) × IsEndOf ran end
    × HasRunStream longest_script tells refuses start input old new ran last

-- what `run` does with the standard input: its lines are run as they come, or all of them are jobs of workers
abbrev pub IsRunAsItComes : Option ℕ → Option Bytes → Option Bytes → Option Bytes → End → Type 0
IsRunAsItComes None input old new end = HasRunAsTheyCome Running.Tells Running.RefusesLine new_hosting input old new end
IsRunAsItComes (Some workers) input old new end = IsRunOn (Some workers) input old new end

-- what a call does with the standard input: it runs or serves its lines as they come, or is performed on the whole
abbrev pub IsPerformedAsItComes : Call → Option Bytes → Option Bytes → Option Bytes → End → Type 0
IsPerformedAsItComes (Table asked) input old new end =
    HasRunAsTheyCome TableLines.TellsListener TableLines.RefusesTableLine None input old new end
IsPerformedAsItComes (Run asked) input old new end = IsRunAsItComes asked.workers input old new end
IsPerformedAsItComes (Serve asked) input old new end =
    HasServed asked.bytes asked.journal asked.from input old new end
IsPerformedAsItComes (Closure asked) input old new end = IsPerformed (Closure asked) input (Some []) old new end
IsPerformedAsItComes (Compare asked) input old new end = IsPerformed (Compare asked) input (Some []) old new end
IsPerformedAsItComes (Crowd asked) input old new end = IsPerformed (Crowd asked) input (Some []) old new end
IsPerformedAsItComes (Compact file) input old new end = IsPerformed (Compact file) input (Some []) old new end
IsPerformedAsItComes (Encode asked) input old new end = IsPerformed (Encode asked) input (Some []) old new end
IsPerformedAsItComes (Decode digits) input old new end = IsPerformed (Decode digits) input (Some []) old new end

-- What answers words that are no call. Help is printed whole (0), or a write failed (4). Else nothing is printed, and
-- the words are at fault (2), or there was no memory (3).
abbrev pub HasAnsweredUsage : Usage → Option Bytes → Option Bytes → ℕ → Type 0
HasAnsweredUsage (Help text) old new status = ((status ≡ 0) × Appends old new (string_bytes text)) ⊎ (status ≡ 4)
HasAnsweredUsage (Bad text) old new status = (status ≡ 2) × Keeps old new
HasAnsweredUsage NoMemory old new status = (status ≡ 3) × Keeps old new
