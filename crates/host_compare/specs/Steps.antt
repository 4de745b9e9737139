-- Which steps of a run are kept, what is kept of them, and whose they are: the definitions of kept steps and outs, cut
-- in two.
use Rattle.std.specs.Prelude.{◌≡◌, ℕ, Bool, false, ◌&&◌, ◌==◌, List, Option, Some, None, option_map, filter, take, length, if◌then◌else◌, slice_get, IsTrue}
use Rattle.std.specs.List.{range_with_len}
use Rattle.scp_types.specs.declared.event.NodeEvent.TheVariants.{Propose, Take, NominationTimer, BallotTimer, Reslice}
use Rattle.scp_spec.specs.Sets.{Names}
use Rattle.scp_spec.specs.Networks.{Step}
use Rattle.scp_spec.specs.Networks.Reading.{Read, Fault}
use Rattle.scp_spec.specs.Networks.Step.{Opens, Closes, Proposes, Delivers, Hears, NominationTimerFires, BallotTimerFires, Reslices}
use Rattle.scp_spec.specs.Hosts.{Entry}
use Rattle.scp_spec.specs.Isolation.{KeptStep, kept_step, kept_of}
use Rattle.scp_spec.specs.Isolation.KeptStep.{Opening, Closing, EventAt, Hearing}

-- the event of the entry with this number, if there is one
abbrev pub event_at : List Entry → ℕ → Option Step
event_at run n = option_map (λ x. x.event) (slice_get run n)

-- a step concerns the members at the slot, and so is kept
abbrev pub is_kept_step : Names → ℕ → Step → Bool
is_kept_step R i (Opens j) = j == i
is_kept_step R i (Closes j) = j == i
is_kept_step R i (Proposes j u x) = (j == i) && R u
is_kept_step R i (Delivers u size (Read e)) = (e.slot == i) && R u && R e.sender
is_kept_step R i (Delivers u size (Fault n)) = false
is_kept_step R i (Hears j u from kind k) = (j == i) && R u && R from
is_kept_step R i (NominationTimerFires j u r) = (j == i) && R u
is_kept_step R i (BallotTimerFires j u n) = (j == i) && R u
is_kept_step R i (Reslices j u q) = (j == i) && R u

-- there is a step, and it is kept
abbrev pub is_kept_in : Names → ℕ → Option Step → Bool
is_kept_in R i None = false
is_kept_in R i (Some s) = is_kept_step R i s

-- what is kept of a step that concerns the members
abbrev pub core : Step → KeptStep
core (Opens j) = Opening
core (Closes j) = Closing
core (Proposes j u x) = EventAt u (Propose x)
core (Delivers u size (Read e)) = EventAt u (Take e)
core (Delivers u size (Fault n)) = Opening
core (Hears j u from kind k) = Hearing u from kind k
core (NominationTimerFires j u r) = EventAt u (NominationTimer r)
core (BallotTimerFires j u n) = EventAt u (BallotTimer n)
core (Reslices j u q) = EventAt u (Reslice q)

-- a node, if its step is at the slot
abbrev pub at_slot : Bool → ℕ → Option ℕ
at_slot b u = if b then Some u else None

-- the node of a step at the slot; none of an opening or closing, or at another slot
abbrev pub node_of_step : ℕ → Step → Option ℕ
node_of_step i (Opens j) = None
node_of_step i (Closes j) = None
node_of_step i (Proposes j u x) = at_slot (j == i) u
node_of_step i (Delivers u size (Read e)) = at_slot (e.slot == i) u
node_of_step i (Delivers u size (Fault n)) = None
node_of_step i (Hears j u from kind k) = at_slot (j == i) u
node_of_step i (NominationTimerFires j u r) = at_slot (j == i) u
node_of_step i (BallotTimerFires j u n) = at_slot (j == i) u
node_of_step i (Reslices j u q) = at_slot (j == i) u

-- the node of a step at the slot, if there is a step
abbrev pub node_in : ℕ → Option Step → Option ℕ
node_in i None = None
node_in i (Some s) = node_of_step i s

-- the numbers of the entries that are kept, ascending
abbrev pub kept_numbers : Names → ℕ → List Entry → List ℕ
kept_numbers R i run = filter (λ n. is_kept_in R i (event_at run n)) (range_with_len 0 (length run))

-- The entry with this number is the kept step at a place, both counted from 0 on. The place says how many kept steps
-- are before it, and what is kept of the entry is what is kept at the place.
pub record IsKeptEntry (R : Names) (i : ℕ) (run : List Entry) (place k : ℕ) : Type 0 where
  pub entry : Entry
  pub there : slice_get run k ≡ Some entry
  pub concerns : IsTrue (is_kept_step R i entry.event)
  pub before : length (kept_of R i (take k run)) ≡ place
  pub step : slice_get (kept_of R i run) place ≡ kept_step R i entry.event
