-- A network as the host keeps it, and the networks of the definitions that it stands for.
use Rattle.node_store.specs.Archives.{Archived}
use Rattle.std.specs.Prelude.{◌≡◌, ◌⊎◌, ℕ, ◌≤◌, ◌==◌, ◌||◌, Bool, true, false, List, map, option_map, Option, Some, None}
use Rattle.std.specs.List.{AllByRecursion}
use Rattle.scp_types.specs.Trees.{Slices, all_differ}
use Rattle.scp_types.specs.declared.event.Out.{Out}
use Rattle.scp_types.specs.declared.event.Refusal.{Refusal}
use Rattle.scp_types.specs.declared.event.Refusal.TheVariants.{NoMemory}
use Rattle.scp_codec.specs.Answers.{fault_number}
use Rattle.scp_codec.specs.Spelling.{most_bytes}
use Rattle.scp_codec.specs.declared.error.Fault.TheVariants.{Version, Kind}
use Rattle.scp_spec.specs.Hosts.{Config}
use Rattle.scp_spec.specs.Nodes.{Node}
use Rattle.scp_spec.specs.Networks.{HostedNode, Instance, Net, Reading, Step, first_that, node_where_open, net_step, instances_at, tests}
use Rattle.scp_spec.specs.Networks.Reading.{Read, Fault}
use Rattle.scp_spec.specs.Networks.Reply.{Done}
use Rattle.scp_spec.specs.Networks.Step.{Delivers}
use Rattle.scp_spec.specs.Rosters.{Draw}
use Rattle.host_config.specs.Configs.{index_of_name, names_of}
use Rattle.host_network.specs.FiledSlots.{AreSlotsFiled, AreTallied, CountedSlot, FiledSlot, counted_slot, slot_of}

-- a network as the host counts it: what each node drew on its shares, and no list of all that was ever drawn
pub record Machine : Type 0 where
  pub config : Config
  pub slots : List CountedSlot
  pub events : ℕ
  pub bytes : ℕ
  pub opens : ℕ

-- the same as the host keeps it, with its archive and its envelopes as they lie there
pub record FiledMachine : Type 0 where
  pub config : Config
  pub archive : Archived
  pub slots : List FiledSlot
  pub events : ℕ
  pub bytes : ℕ
  pub opens : ℕ

-- a network without its archive: its envelopes whole
abbrev pub machine_of : FiledMachine → Machine
machine_of m =
    record { config = m.config; slots = map counted_slot m.slots; events = m.events; bytes = m.bytes; opens = m.opens }

-- the network, if this was drawn
abbrev pub net_of : Machine → List Draw → Net
net_of m draws = record {
  number = m.config.number;
  nodes = m.config.nodes;
  budgets = m.config.budgets;
  roster = m.config.roster;
  slots = map slot_of m.slots;
  events = m.events;
  bytes = m.bytes;
  opens = m.opens;
  draws = draws;
}

-- A machine stands for a network that has its parts and whose draws come to its counts. Networks for which one machine
-- stands differ only in the order and the closed slots of their draws, which no test and no effect reads.
pub record StandsFor (m : Machine) (net : Net) : Type 0 where
  pub is : net ≡ net_of m net.draws
  pub tallied : AreTallied net.draws m.slots

-- a node of a slot: its rows, and what it has emitted, are of that slot
pub record IsOfSlot (i : ℕ) (p : Instance) : Type 0 where
  pub node : p.node.slot ≡ i
  pub rows : AllByRecursion (λ e. e.slot ≡ i) p.node.table
  pub emitted : AllByRecursion (λ e. e.slot ≡ i) p.emitted

-- No name is hosted twice, and the hosted nodes stand in their order at each open slot. No slot is open twice, each
-- node is of its slot, and the bytes keep the budget.
pub record IsTidy (m : Machine) : Type 0 where
  pub single : all_differ (names_of m.config.nodes) ≡ true
  pub names : AllByRecursion (λ s. map (λ x. x.instance.node.name) s.instances ≡ names_of m.config.nodes) m.slots
  pub apart : all_differ (map (λ s. s.number) m.slots) ≡ true
  pub own : AllByRecursion (λ s. AllByRecursion (λ x. IsOfSlot s.number x.instance) s.instances) m.slots
  pub bytes : m.bytes ≤ m.config.budgets.bytes

-- it stands for some network
abbrev pub IsStood : Machine → Type 0
IsStood m = (draws : List Draw) × AreTallied draws m.slots

-- its archive has all its envelopes; and as a machine it is tidy, and stands for a network of the definitions
pub record IsStanding (m : FiledMachine) : Type 0 where
  pub archived : AreSlotsFiled m.archive m.slots
  pub tidy : IsTidy (machine_of m)
  pub stood : IsStood (machine_of m)

-- ---- what is read of a node
-- a node at a slot of a network, as it is now; there is none if the slot is not open or the node is not hosted
abbrev pub node_at : Net → ℕ → ℕ → Option Node
node_at net i u = option_map (λ p. p.node) (node_where_open (instances_at net.slots i) u)

-- the slices of a node at a slot of a network, as they are now; there are none if the slot is not open or the node is
-- not hosted
abbrev pub slices_of_node : Net → ℕ → ℕ → Option Slices
slices_of_node net i u = option_map (λ p. p.node.slices) (node_where_open (instances_at net.slots i) u)

-- ---- what an event is answered
-- the answer to an event is the network's step, for each network for which the machine stands
abbrev pub IsStep : Machine → Step → List Out → Machine → Type 0
IsStep old e os new =
    (net : Net) → StandsFor old net → StandsFor new (net_step net e).0 × ((net_step net e).1 ≡ Done os)

-- no test refuses it, whatever network the machine stands for
abbrev pub IsAllowed : Machine → Step → Type 0
IsAllowed m e = (net : Net) → StandsFor m net → first_that (tests net e) ≡ None

-- this is the first refusal that applies, whatever network the machine stands for
abbrev pub IsFirstRefusal : Machine → Step → Refusal → Type 0
IsFirstRefusal m e r = (net : Net) → StandsFor m net → first_that (tests net e) ≡ Some r

-- whether bytes have a fault that is found before memory is asked for: in the version, or in the kind
abbrev pub is_found_early : Reading → Bool
is_found_early (Read e) = false
is_found_early (Fault n) = n == fault_number Version || n == fault_number Kind

-- bytes may take memory to be read: they are not too many, and no fault of them is found before
abbrev pub MayTakeMemory : ℕ → Reading → Type 0
MayTakeMemory size said = (size ≤ most_bytes) × (is_found_early said ≡ false)

-- the event delivers bytes to a hosted node, and reading them may take memory
abbrev pub IsDeliveryThatTakesMemory : List HostedNode → Step → Type 0
IsDeliveryThatTakesMemory nodes (Delivers u size said) = ((h : ℕ) × (index_of_name nodes u ≡ Some h)) × MayTakeMemory size said
IsDeliveryThatTakesMemory nodes _ = ⊥

-- the first refusal that applies; or that it is out of memory, if none applies
abbrev pub IsRightRefusal : Machine → Step → Refusal → Type 0
IsRightRefusal m e r = ((r ≡ NoMemory) × IsAllowed m e) ⊎ IsFirstRefusal m e r

-- the first refusal that applies; or that it is out of memory, if none applies or bytes were read that may take memory
abbrev pub IsRefusal : Machine → Step → Refusal → Type 0
IsRefusal m e r = ((r ≡ NoMemory) × (IsAllowed m e ⊎ IsDeliveryThatTakesMemory m.config.nodes e)) ⊎ IsFirstRefusal m e r
