-- What waits to be handed on, by the journals.
use Rattle.std.specs.Prelude.{◌≡◌, ◌==◌, ◌≤◌, ◌+◌, ℕ, true, false, length, List, [], ◌∷◌, Option, Some, None, is_some, Ok, slice_get}
use Rattle.std.specs.List.{AllByRecursion}
use Rattle.std.specs.Ordering.{nat_cmp}
use Rattle.std.specs.BTreeMap.{is_at}
use Rattle.std.specs.Map.{lookup}
use Rattle.scp_types.specs.Statements.{Sent, kind_of}
use Rattle.scp_types.specs.declared.event.Event.{Event}
use Rattle.scp_types.specs.declared.event.Out.{Out}
use Rattle.scp_spec.specs.Networks.{Net, Step, emission, emissions, node_where_open, instances_at}
use Rattle.scp_spec.specs.Runs.{state_of}
use Rattle.host_network.specs.Decoding.{step_of}
use Rattle.host_network.specs.declared.emission.Emission.{Emission}
use Rattle.host_journal.specs.Logs.{IsEntered, Log, marks_of, with_entry}
use Rattle.host_world.specs.Worlds.{log_at}
use Rattle.line_script.specs.Script.{Bytes}
use Rattle.line_script.specs.Runs.{HasRun}
use Rattle.line_request.specs.Outlines.{Waiting, waiting_at}
use Rattle.line_request.specs.Naming.{Named, is_in}
use Rattle.line_run.specs.Hosting.{Hosting, new_hosting}
use Rattle.line_run.specs.Running.{RefusesLine, Tells}
use Rattle.line_run.specs.Unheard.{slot_closed_by, unheard_at}

-- ---- emissions by their marks

-- an emission of a node at a slot of a network, by its kind and its number among those of its kind
abbrev pub emission_found : Net → ℕ → Emission → Option Sent
emission_found net i e = emission (node_where_open (instances_at net.slots i) e.from) e.kind e.number

-- an emission that an event gave out, by its mark: in the network after the event it is found by that number
abbrev pub IsMarked : Net → Sent → ℕ → Type 0
IsMarked net x k =
    emission_found net x.slot (record { from = x.sender; kind = kind_of x.body; number = k }) ≡ Some x

-- The marks of an event that is applied name its emissions: the one with the n-th mark is the n-th that it gave out.
abbrev pub MarksNameEmissions : Type 0
MarksNameEmissions =
    (l : Log) (e : Step) (os : List Out) → IsEntered l e os → (n : ℕ) (x : Sent) (k : ℕ) → slice_get (emissions os) n ≡ Some x
    → slice_get (marks_of l.config l.entries e) n ≡ Some k → IsMarked (state_of l.config (with_entry l e os).entries) x k

-- An emission that is found at a slot by its number is found later too, and is the same one. This is so after each
-- event that is applied and does not close the slot.
abbrev pub EmissionsStay : Type 0
EmissionsStay =
    (l : Log) (e : Event) (os : List Out) (i : ℕ) (m : Emission) (x : Sent) → IsEntered l (step_of e) os
    → ((c : ℕ) → slot_closed_by e ≡ Some c → (c == i) ≡ false) → emission_found (state_of l.config l.entries) i m ≡ Some x
    → emission_found (state_of l.config (with_entry l (step_of e) os).entries) i m ≡ Some x

-- ---- what waits

-- each of these emissions is found at a slot of a network
abbrev pub EmissionsAreFound : Net → ℕ → List Emission → Type 0
EmissionsAreFound net i es = AllByRecursion (λ e. is_some (emission_found net i e) ≡ true) es

-- by the journal of the network: if there is none, nothing waits
abbrev pub EmissionsAreFoundIn : Option Log → ℕ → List Emission → Type 0
EmissionsAreFoundIn None i es = es ≡ []
EmissionsAreFoundIn (Some l) i es = EmissionsAreFound (state_of l.config l.entries) i es

-- what stands at a number, if anything
abbrev pub at_number : {X : Type 0} → List (ℕ × X) → ℕ → Option X
at_number xs n = lookup (is_at (nat_cmp n)) xs

-- no number stands twice
abbrev pub StandOnce : {X : Type 0} → List (ℕ × X) → Type 0
StandOnce [] = Unit {0}
StandOnce (x ∷ xs) = (at_number xs x.0 ≡ None) × StandOnce xs

-- The networks that have joined are those that were declared before an event named them. None that waits has joined, no
-- number waits twice, and there is room for all that wait.
pub record CanAllJoin (ws : Waiting) (n : Named) (logs : List Log) : Type 0 where
  pub joined : (g : ℕ) → is_some (log_at logs g) ≡ is_in n.running g
  pub counted : length logs ≤ length n.running
  pub apart : (g : ℕ) → is_some (waiting_at ws g) ≡ true → is_in n.running g ≡ false
  pub once : StandOnce ws
  pub few : length ws + length n.running ≤ 4096

-- The networks of a script, in a state in which each emission that waits is found in its network. So a node that hears
-- it gets it. No emission waits in a network that is served, and all networks that wait can join.
pub record FollowsJournals (h : Hosting) : Type 0 where
  pub room : CanAllJoin h.waiting h.named h.logs
  pub found : (g i : ℕ) → EmissionsAreFoundIn (log_at h.logs g) i (unheard_at h.unheard g i)
  pub served : (g i : ℕ) → is_in h.named.served g ≡ true → unheard_at h.unheard g i ≡ []

-- each emission that waits is found before the first line, and each line that is run keeps it so
abbrev pub LinesFollowJournals : Type 0
LinesFollowJournals =
    FollowsJournals new_hosting
    × ((old new : Hosting) (fields : List Bytes) (printed : Option Bytes) → FollowsJournals old → Tells old fields printed new → FollowsJournals new)

-- each emission that waits is found after the lines of any text that were run from the first one on
abbrev pub RunsFollowJournals : Type 0
RunsFollowJournals =
    (text : Bytes) (before after : Option Bytes) (new : Hosting)
    → HasRun Tells RefusesLine new_hosting text before after (Ok tt) new → FollowsJournals new
