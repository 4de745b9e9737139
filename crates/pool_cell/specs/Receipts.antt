-- Receipts, and what a journal has of them.
use Rattle.std.specs.Prelude.{ℕ, if◌then◌else◌, ◌==◌, List, [], ◌∷◌, ◌++◌, length}
use Rattle.scp_types.specs.declared.event.Event.{Event}
use Rattle.scp_types.specs.declared.event.Out.{Out}
use Rattle.scp_spec.specs.Networks.{Step}
use Rattle.scp_spec.specs.Hosts.{Config, Entry}
use Rattle.host_network.specs.Decoding.{step_of}
use Rattle.host_journal.specs.Logs.{marks_of}

-- an event that was applied, with its network, the number of its entry and what it gave out; and the numbers by which a
-- Hear names its emissions
pub record AppliedEvent : Type 0 where
  pub network : ℕ
  pub number : ℕ
  pub event : Event
  pub outs : List Out
  pub marks : List ℕ

-- an entry of a journal, with the parts of an applied event; but the bytes of its event have been read
pub record Extract : Type 0 where
  pub network : ℕ
  pub number : ℕ
  pub step : Step
  pub outs : List Out
  pub marks : List ℕ

-- the receipt of an event with these outs, after these entries
abbrev pub receipt : Config → List Entry → Event → List Out → AppliedEvent
receipt config before event outs = record {
  network = config.number;
  number = length before;
  event = event;
  outs = outs;
  marks = marks_of config before (step_of event);
}

-- the entry that a receipt is of
abbrev pub receipt_entry : AppliedEvent → Entry
receipt_entry r = record { event = step_of r.event; outs = r.outs }

-- what a receipt has, without the event's bytes
abbrev pub extract_of : AppliedEvent → Extract
extract_of r = record { network = r.network; number = r.number; step = step_of r.event; outs = r.outs; marks = r.marks }

-- what the receipt of an entry has, after these entries
abbrev pub extract : Config → List Entry → Entry → Extract
extract config before e = record {
  network = config.number;
  number = length before;
  step = e.event;
  outs = e.outs;
  marks = marks_of config before e.event;
}

-- the extracts of all entries that are a seat's, by the owner of each; these come after the entries before
abbrev pub extracts_from : Config → List Entry → ℕ → List ℕ → List Entry → List Extract
extracts_from config before by [] es = []
extracts_from config before by (o ∷ os) [] = []
extracts_from config before by (o ∷ os) (e ∷ es) =
    (if o == by then extract config before e ∷ [] else []) ++ extracts_from config (before ++ e ∷ []) by os es

abbrev pub extracts_of : Config → ℕ → List ℕ → List Entry → List Extract
extracts_of config by owners entries = extracts_from config [] by owners entries
