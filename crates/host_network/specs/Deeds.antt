-- What is to be done for an event, by place, once nothing refuses it, and on what it draws.
use Rattle.std.specs.Prelude.{◌≡◌, ℕ, Bool, true, false, ◌<◌, length, map, List, [], ◌∷◌, ◌++◌, slice_get, Option, Some, None, Result, Ok, Err, ⊤}
use Rattle.std.specs.List.{All, remove}
use Rattle.scp_types.specs.Statements.{Sent}
use Rattle.node_store.specs.Archives.{Archived}
use Rattle.scp_types.specs.declared.event.NodeEvent.{NodeEvent}
use Rattle.scp_types.specs.declared.event.Out.{Out}
use Rattle.scp_types.specs.declared.event.Refusal.{Refusal}
use Rattle.scp_spec.specs.Networks.{Net, Instance, Slot, Step, act, room_test, bytes_test, hosted_test, open_test, effect, first_that, after_event, outs_at, size_of, source, tests}
use Rattle.scp_spec.specs.Networks.Step.{Opens as StepOpens, Closes as StepCloses}
use Rattle.node_core.specs.declared.filed.FiledEvent.{FiledEvent}
use Rattle.scp_spec.specs.Rosters.{Roster, Source, share_or_budgets}
use Rattle.scp_spec.specs.Rosters.Share.{Own as OwnShare, Pair as PairShare}
use Rattle.scp_spec.specs.Rosters.Source.{OfBudgets, OfOpens, OfShare}
use Rattle.node_core.specs.Filings.{IsFiledEvent, event_of}
use Rattle.host_network.specs.Changes.{changed_at}
use Rattle.host_config.specs.Configs.{index_in, index_of_name}
use Rattle.host_network.specs.FiledSlots.{CountedInstance, CountedSlot, IsInstanceFiled, HasDrawnNothing, counted_slot, slot_of}
use Rattle.host_network.specs.Answers.{delivered_of}
use Rattle.host_network.specs.Marks.{slot_and_node_of}
use Rattle.host_network.specs.Standing.{IsAllowed, IsFirstRefusal, IsRefusal, Machine, FiledMachine, StandsFor, machine_of}
use Rattle.host_network.specs.declared.plan.Deed.{Deed}
use Rattle.host_network.specs.declared.plan.Deed.TheVariants.{Open, Close, Act, Hand}
use Rattle.host_network.specs.declared.plan.Drawn.{Drawn}
use Rattle.host_network.specs.declared.plan.Drawn.TheVariants.{Budgets, Opens, Own, Pair}
use Rattle.host_network.specs.declared.plan.Plan.{Plan}
use Rattle.host_network.specs.declared.plan.Spot.{Spot}

-- the place of an open slot
abbrev pub index_of_slot : List Slot → ℕ → Option ℕ
index_of_slot slots i = index_in (map (λ s. s.number) slots) i

-- the node at a place of a slot
abbrev pub instance_at : Option Slot → ℕ → Option Instance
instance_at None n = None
instance_at (Some s) n = slice_get s.instances n

-- ---- what is done, by places
abbrev pub slots_after_event : List Slot → ℕ → ℕ → NodeEvent → List Slot
slots_after_event slots k h e =
    changed_at {X = Slot} k (λ (s : Slot). record s { instances = changed_at h (after_event e) s.instances }) slots

abbrev pub slots_after : List Slot → Deed → List Slot
slots_after slots (Open s) = slots ++ slot_of (counted_slot s) ∷ []
slots_after slots (Close k) = remove slots k
slots_after slots (Act at e) = slots_after_event slots at.slot_at at.node_at (event_of e)
slots_after slots (Hand at e) = slots_after_event slots at.slot_at at.node_at (NodeEvent.Take e)

-- what a deed, which is told by places, gives out
abbrev pub outs_of_deed : List Slot → Deed → List Out
outs_of_deed slots (Open s) = []
outs_of_deed slots (Close k) = []
outs_of_deed slots (Act at e) = outs_at (event_of e) (instance_at (slice_get slots at.slot_at) at.node_at)
outs_of_deed slots (Hand at e) = outs_at (NodeEvent.Take e) (instance_at (slice_get slots at.slot_at) at.node_at)

-- there is a node at these places
abbrev pub IsNodeThere : List Slot → ℕ → ℕ → Type 0
IsNodeThere slots k h = (s : Slot) × (slice_get slots k ≡ Some s) × (h < length s.instances)

-- the places are there, and the archive has the envelopes; the nodes of a slot that is opened have drawn nothing
abbrev pub IsThere : Archived → List Slot → Deed → Type 0
IsThere archive slots (Open s) = All (IsInstanceFiled archive) s.instances × All HasDrawnNothing s.instances
IsThere archive slots (Close k) = k < length slots
IsThere archive slots (Act at e) = IsNodeThere slots at.slot_at at.node_at × IsFiledEvent archive e
IsThere archive slots (Hand at e) = IsNodeThere slots at.slot_at at.node_at

-- ---- whose event it is
-- the node of this slot and name is the one at these places
abbrev pub IsNodeOf : Machine → Option (ℕ × ℕ) → ℕ → ℕ → Type 0
IsNodeOf m None k h = ⊥
IsNodeOf m (Some at) k h =
    (index_of_slot (map slot_of m.slots) at.0 ≡ Some k) × (index_of_name m.config.nodes at.1 ≡ Some h)

-- the event opens this slot, closes one, or is one of the node at these places
abbrev pub IsEventOf : Machine → Step → Deed → Type 0
IsEventOf m e (Open s) = e ≡ StepOpens s.number
IsEventOf m e (Close k) = (i : ℕ) × (e ≡ StepCloses i)
IsEventOf m e (Act at x) = IsNodeOf m (slot_and_node_of e) at.slot_at at.node_at
IsEventOf m e (Hand at x) = IsNodeOf m (slot_and_node_of e) at.slot_at at.node_at

-- the envelope that is filed when it is handed over
abbrev pub envelope_to_file : Deed → Option Sent
envelope_to_file (Open s) = None
envelope_to_file (Close k) = None
envelope_to_file (Act at x) = None
envelope_to_file (Hand at x) = Some x

-- the node at a place of an open slot, with its counts
abbrev pub IsCountedInstance : Machine → ℕ → ℕ → CountedInstance → Type 0
IsCountedInstance m k h y = (x : CountedSlot) × (slice_get m.slots k ≡ Some x) × (slice_get x.instances h ≡ Some y)

-- there is a node at this place of an open slot
abbrev pub IsInstanceThere : Machine → ℕ → ℕ → Type 0
IsInstanceThere m k h = (y : CountedInstance) × IsCountedInstance m k h y

-- ---- on what it draws, by places
-- what is drawn on by places is this source of the definitions
abbrev pub IsDrawn : Machine → Drawn → Source → Type 0
IsDrawn m Budgets s = s ≡ OfBudgets
IsDrawn m Opens s = (r : Roster) × (m.config.roster ≡ Some r) × (s ≡ OfOpens r.shares)
IsDrawn m (Own at) s =
    (r : Roster) × (x : CountedSlot) × (y : CountedInstance) × (m.config.roster ≡ Some r) × (slice_get m.slots at.slot_at ≡ Some x)
    × (slice_get x.instances at.node_at ≡ Some y) × (s ≡ OfShare r.shares x.number (OwnShare y.instance.node.name))
IsDrawn m (Pair at u) s =
    (r : Roster) × (x : CountedSlot) × (y : CountedInstance) × (m.config.roster ≡ Some r) × (slice_get m.slots at.slot_at ≡ Some x)
    × (slice_get x.instances at.node_at ≡ Some y) × (s ≡ OfShare r.shares x.number (PairShare y.instance.node.name u))

-- a plan for an event that nothing refuses: what is done by places is what the event does, whatever network the machine
-- stands for
pub record IsPlan (m : FiledMachine) (e : Step) (plan : Plan) : Type 0 where
  pub allowed : IsAllowed (machine_of m) e
  pub slots : (net : Net) → StandsFor (machine_of m) net → slots_after net.slots plan.deed ≡ (effect net e).0.slots
  pub outs : (net : Net) → StandsFor (machine_of m) net → outs_of_deed net.slots plan.deed ≡ (effect net e).1
  pub named : IsEventOf (machine_of m) e plan.deed
  pub handed : envelope_to_file plan.deed ≡ delivered_of e
  pub drawn : IsDrawn (machine_of m) plan.charge.drawn (source m.config.roster e)
  pub size : plan.charge.size ≡ size_of e
  pub there : IsThere m.archive (map slot_of (machine_of m).slots) plan.deed

-- a plan for an event, or a refusal
abbrev pub IsPlanned : FiledMachine → Step → Result Plan Refusal → Type 0
IsPlanned m e (Ok plan) = IsPlan m e plan
IsPlanned m e (Err r) = IsRefusal (machine_of m) e r

-- a plan for an event that takes no memory, or the first refusal that applies
abbrev pub IsPlannedSurely : FiledMachine → Step → Result Plan Refusal → Type 0
IsPlannedSurely m e (Ok plan) = IsPlan m e plan
IsPlannedSurely m e (Err r) = IsFirstRefusal (machine_of m) e r

-- what an event draws on by places is there
abbrev pub IsDrawnThere : Machine → Drawn → Type 0
IsDrawnThere m d = (s : Source) × IsDrawn m d s

-- there is room for one more event on what is drawn on, whatever network the machine stands for
abbrev pub HasRoomForEvent : Machine → Drawn → Type 0
HasRoomForEvent m d = (s : Source) (net : Net) → IsDrawn m d s → StandsFor m net → (room_test net s).0 ≡ false

-- there is no room for one more event on what is drawn on, and this is the refusal, whatever network the machine stands
-- for
abbrev pub HasNoRoom : Machine → Drawn → Refusal → Type 0
HasNoRoom m d r = (s : Source) (net : Net) → IsDrawn m d s → StandsFor m net → room_test net s ≡ (true, r)

-- there is room for this many bytes more on what is drawn on, whatever network the machine stands for
abbrev pub HasRoomForDrawnBytes : Machine → Drawn → ℕ → Type 0
HasRoomForDrawnBytes m d size =
    (s : Source) (net : Net) → IsDrawn m d s → StandsFor m net → (bytes_test net s size).0 ≡ false

-- there is no room for this many bytes more on what is drawn on, and this is the refusal, whatever network the machine
-- stands for
abbrev pub HasNoRoomForBytes : Machine → Drawn → ℕ → Refusal → Type 0
HasNoRoomForBytes m d size r =
    (s : Source) (net : Net) → IsDrawn m d s → StandsFor m net → bytes_test net s size ≡ (true, r)

-- what comes to a node draws on the budgets or on what it gets from a name
abbrev pub IsOfBudgetsOrPair : Drawn → Type 0
IsOfBudgetsOrPair Budgets = ⊤
IsOfBudgetsOrPair Opens = ⊥
IsOfBudgetsOrPair (Own at) = ⊥
IsOfBudgetsOrPair (Pair at u) = ⊤

-- ---- what an event of a node draws on
-- what an event of a node's own draws on
abbrev pub own_source : Option Roster → ℕ → ℕ → Source
own_source None i u = OfBudgets
own_source (Some r) i u = share_or_budgets r i (OwnShare u)

-- what an event that comes to a node from a name draws on
abbrev pub pair_source : Option Roster → ℕ → ℕ → ℕ → Source
pair_source None i u from = OfBudgets
pair_source (Some r) i u from = share_or_budgets r i (PairShare u from)

-- on what is drawn, if there is room on it for one more event, or the refusal if there is none
abbrev pub IsRoom : FiledMachine → (Option Roster → Source) → Result Drawn Refusal → Type 0
IsRoom m of (Ok d) =
    IsDrawn (machine_of m) d (of m.config.roster)
    × ((net : Net) → StandsFor (machine_of m) net → (room_test net (of net.roster)).0 ≡ false)
IsRoom m of (Err r) = (net : Net) → StandsFor (machine_of m) net → room_test net (of net.roster) ≡ (true, r)

-- the open slot of this number stands at this place
abbrev pub IsSlotThere : FiledMachine → ℕ → ℕ → Type 0
IsSlotThere m i k = index_of_slot (map slot_of (machine_of m).slots) i ≡ Some k

-- on what a node's own event draws, if there is room for one more, or the refusal if there is none
abbrev pub IsOwnRoom : FiledMachine → Spot → ℕ → Result Drawn Refusal → Type 0
IsOwnRoom m s u result = (i : ℕ) → IsSlotThere m i s.slot_at → IsRoom m (λ o. own_source o i u) result

-- on what an event from a name draws, if there is room for one more, or the refusal if there is none
abbrev pub IsPairRoom : FiledMachine → Spot → ℕ → ℕ → Result Drawn Refusal → Type 0
IsPairRoom m s u from result = (i : ℕ) → IsSlotThere m i s.slot_at → IsRoom m (λ o. pair_source o i u from) result

-- ---- the tests that all events of a node's own share
-- the places of a hosted node at an open slot
pub record IsSpot (m : FiledMachine) (i u : ℕ) (s : Spot) : Type 0 where
  pub slot : IsSlotThere m i s.slot_at
  pub node : index_of_name m.config.nodes u ≡ Some s.node_at

-- the node is not hosted, or the slot is not open
abbrev pub IsSpotRefused : FiledMachine → ℕ → ℕ → Refusal → Type 0
IsSpotRefused m i u r =
    (net : Net) → StandsFor (machine_of m) net → (ts : List (Bool × Refusal))
    → first_that (hosted_test net u ∷ open_test net i ∷ ts) ≡ Some r

-- the tests of an event of a node's own, in their order
abbrev pub own_tests : Net → ℕ → ℕ → List (Bool × Refusal)
own_tests net i u = hosted_test net u ∷ open_test net i ∷ room_test net (own_source net.roster i u) ∷ []

-- an event of a node's own that has only the tests that all of these share
pub record IsOwnEvent (i u : ℕ) (x : FiledEvent) (e : Step) : Type 0 where
  pub tests_are : (net : Net) → tests net e ≡ own_tests net i u
  pub effect_is : (net : Net) → effect net e ≡ act net i u (event_of x)
  pub source_is : (o : Option Roster) → source o e ≡ own_source o i u
  pub size_is : size_of e ≡ 0
  pub named_is : slot_and_node_of e ≡ Some (i, u)
  pub none_is : delivered_of e ≡ None

-- a plan for such an event of a node's own, or the first refusal that applies
abbrev pub IsPlannedOwn : FiledMachine → ℕ → ℕ → FiledEvent → Result Plan Refusal → Type 0
IsPlannedOwn m i u x result = (e : Step) → IsOwnEvent i u x e → IsPlannedSurely m e result
