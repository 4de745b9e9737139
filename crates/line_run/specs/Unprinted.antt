-- Lines of scripts that are run for what becomes of the networks, and print nothing.
use Rattle.std.specs.Prelude.{◌≡◌, ◌≢◌, ◌==◌, ◌&&◌, ◌++◌, ◌+◌, ℕ, Bool, not, nat_lt, length, All, List, [], ◌∷◌, Option, Some, None, Err, unwrap_or, if◌then◌else◌}
use Rattle.std.specs.List.{list_any}
use Rattle.line_script.specs.Script.{Bytes}
use Rattle.scp_types.specs.declared.event.Refusal.TheVariants.{NoMemory}
use Rattle.host_journal.specs.Logs.{Log}
use Rattle.host_world.specs.Worlds.{log_at}
use Rattle.line_run.specs.declared.outcome.Outcome.{Outcome}
use Rattle.line_run.specs.declared.outcome.Outcome.TheVariants.{Declared, Answer, Answers, Settled}
use Rattle.line_run.specs.Hosting.{Hosting, IsFinished}
use Rattle.line_run.specs.Running.{IsLineCarriedOut, RefusesLine}

-- for each line that was run, in order, the network that it names, and how many entries the journal of that one has
-- after it
abbrev pub Trace : Type 0
Trace = List (ℕ × ℕ)

-- the networks of a script whose lines print nothing, and the trace of the lines, if it is kept
pub record Unprinted : Type 0 where
  pub hosting : Hosting
  pub trace : Option Trace

-- By what came of a line, none of its events was refused because it was out of memory. These are the events that it
-- asks for, and the hearings if it settles a slot. (Those that follow an event of a served network never were.)
abbrev pub HadMemory : Outcome → Type 0
HadMemory Declared = Unit {0}
HadMemory (Answer r) = r ≢ Err NoMemory
HadMemory (Answers rs) = All (λ r. r ≢ Err NoMemory) rs.items
HadMemory (Settled slot ended) = ended ≢ Some NoMemory

-- how many entries a journal has
abbrev pub entry_count : Option Log → ℕ
entry_count None = 0
entry_count (Some l) = length l.entries

-- a trace with a line more, which names the network of a number
abbrev pub trace_after : ℕ → List Log → Option Trace → Option Trace
trace_after g logs None = None
trace_after g logs (Some t) = Some (t ++ (g, entry_count (log_at logs g)) ∷ [])

-- What a line tells if nothing is printed: what it orders is done as in a script whose answers are printed. No event of
-- the line was refused because it was out of memory, and the trace has the line.
abbrev pub TellsUnprinted : Unprinted → List Bytes → Option Bytes → Unprinted → Type 0
TellsUnprinted old fields printed new =
    (g : ℕ) × (outcome : Outcome) × IsLineCarriedOut g fields old.hosting outcome new.hosting × (printed ≡ None)
    × HadMemory outcome × (new.trace ≡ trace_after g new.hosting.logs old.trace)

-- a line is bad in a script that prints nothing, as in one whose answers are printed
abbrev pub RefusesUnprinted : Unprinted → List Bytes → Type 0
RefusesUnprinted old fields = RefusesLine old.hosting fields

-- the line names the network of a number, which has more than n entries after it
abbrev pub has_more : ℕ → ℕ → ℕ × ℕ → Bool
has_more g n line = (line.0 == g) && nat_lt n line.1

-- the line names the network of a number, which has at most n entries after it
abbrev pub has_no_more : ℕ → ℕ → ℕ × ℕ → Bool
has_no_more g n line = (line.0 == g) && not (nat_lt n line.1)

-- The line that an entry of a network comes from, by the lines from a number on. After it, and after each later line
-- that names the network, there are more entries than come before this one. It is the first line of the network of
-- which this holds. (After a line that takes the network back there are none.)
abbrev pub origin_from : ℕ → Trace → ℕ → ℕ → Option ℕ
origin_from k [] g n = None
origin_from k (line ∷ t) g n =
    if has_more g n line && not (list_any (has_no_more g n) t) then Some k else origin_from (k + 1) t g n

-- the line that an entry of a network comes from, with one line more behind those among which it was found
abbrev pub origin_with : Option ℕ → ℕ → ℕ × ℕ → ℕ → ℕ → Option ℕ
origin_with found k line g n =
    if line.0 == g then (if nat_lt n line.1 then Some (unwrap_or found k) else None) else found

-- the line that an entry of a network comes from, by the trace of all lines, counted from 0
abbrev pub origin_in : Option Trace → ℕ → ℕ → Option ℕ
origin_in None g n = None
origin_in (Some t) g n = origin_from 0 t g n

-- after the last line all networks that wait and have nodes have joined
abbrev pub IsFinishedUnprinted : Unprinted → Unprinted → Type 0
IsFinishedUnprinted old new = IsFinished old.hosting new.hosting × (new.trace ≡ old.trace)
