-- Journals and the worlds that have them.
use Rattle.std.specs.Prelude.{◌≡◌, ◌⊎◌, ℕ, ⊤, Vec, List, [], ◌∷◌, ◌++◌, Option, Some, None}
use Rattle.std.specs.Global.{Global}
use Rattle.scp_types.specs.declared.event.Event.{Event}
use Rattle.scp_types.specs.declared.event.Out.{Out}
use Rattle.scp_types.specs.declared.event.Refusal.{Refusal}
use Rattle.scp_types.specs.declared.event.Refusal.TheVariants.{NoMemory}
use Rattle.scp_spec.specs.Networks.{Step}
use Rattle.scp_spec.specs.Hosts.{Config, Entry}
use Rattle.scp_spec.specs.Runs.{IsRun, outs_given, refusal_of, state_of}
use Rattle.host_network.specs.Marks.{marks_in}
use Rattle.host_network.specs.Decoding.{step_of}
use Rattle.host_network.specs.Standing.{IsDeliveryThatTakesMemory, Machine, StandsFor}

-- a journal: a configuration, and the entries, envelopes whole
pub record Log : Type 0 where
  pub config : Config
  pub entries : List Entry

-- the entries of a journal are a run, and the machine is what they lead to
pub record IsJournal (m : Machine) (entries : List Entry) : Type 0 where
  pub run : IsRun m.config entries
  pub state : StandsFor m (state_of m.config entries)

-- a journal with one entry more
abbrev pub with_entry : Log → Step → List Out → Log
with_entry l e os = record l { entries = l.entries ++ record { event = e; outs = os } ∷ [] }

-- an event is not refused after these entries, and gives this out
abbrev pub IsEntered : Log → Step → List Out → Type 0
IsEntered l e os = (refusal_of l.config l.entries e ≡ None) × (os ≡ outs_given l.config l.entries e)

-- it may be out of memory for an event after these entries: nothing else refuses it, or bytes are being read that may
-- take memory
abbrev pub MayWantMemory : Config → List Entry → Step → Type 0
MayWantMemory config entries e = (refusal_of config entries e ≡ None) ⊎ IsDeliveryThatTakesMemory config.nodes e

-- the first refusal that applies after these entries; or that it is out of memory, if it may be
abbrev pub IsRefused : Log → Step → Refusal → Type 0
IsRefused l e r =
    ((r ≡ NoMemory) × MayWantMemory l.config l.entries e) ⊎ (refusal_of l.config l.entries e ≡ Some r)

-- by which numbers the emissions of an event after these entries are named
abbrev pub marks_of : Config → List Entry → Step → List ℕ
marks_of config before e = marks_in (state_of config before) e

-- an event as it comes, and outs, are those of an entry
abbrev pub IsEntryAt : Option Entry → Option (Event × Vec Out Global) → Type 0
IsEntryAt None None = ⊤
IsEntryAt (Some x) (Some r) = (step_of r.0 ≡ x.event) × (r.1.items ≡ x.outs)
IsEntryAt _ _ = ⊥
