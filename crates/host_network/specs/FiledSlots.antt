-- Hosted nodes whose envelopes lie in an archive, with what they drew on shares, and what they stand for.
use Rattle.std.specs.Prelude.{◌≡◌, ℕ, ◌≤◌, ◌+◌, ◌==◌, Bool, List, [], ◌∷◌, map, Vec, vec_len, vec_capacity, if◌then◌else◌}
use Rattle.std.specs.Global.{Global}
use Rattle.std.specs.List.{All}
use Rattle.scp_spec.specs.Networks.{Instance, Slot}
use Rattle.scp_spec.specs.Rosters.{Draw, bytes_drawn, events_drawn}
use Rattle.scp_spec.specs.Rosters.Share.{Own, Pair}
use Rattle.node_store.specs.Archives.{Archived, AreFiled, AreHeld, sents_of}
use Rattle.node_store.specs.declared.filed.Filed.{Filed}
use Rattle.node_core.specs.Listening.{FiledNode}
use Rattle.host_network.specs.declared.tallies.Tally.{Tally}
use Rattle.host_network.specs.declared.emission_log.PlacesByKind.{PlacesByKind}

-- ---- a node at a slot
-- a node and what it has emitted, as they were filed; how many of its own events it drew, and what it drew from each
-- other name
pub record FiledInstance : Type 0 where
  pub held : FiledNode
  pub emitted : List Filed
  pub own : ℕ
  pub heard : List Tally

-- the same with whole envelopes, and without the list of rows
pub record CountedInstance : Type 0 where
  pub instance : Instance
  pub own : ℕ
  pub heard : List Tally

-- a node at a slot and its emissions, with whole envelopes
abbrev pub instance_of_filed : FiledInstance → Instance
instance_of_filed l = record { node = l.held.node; emitted = sents_of l.emitted }

-- a node at a slot and its counts, with whole envelopes
abbrev pub counted_instance : FiledInstance → CountedInstance
counted_instance l = record { instance = instance_of_filed l; own = l.own; heard = l.heard }

-- a node at a slot has drawn nothing
pub record HasDrawnNothing (l : FiledInstance) : Type 0 where
  pub own : l.own ≡ 0
  pub heard : l.heard ≡ []

-- the rows of a node at a slot are those of its table; the archive has them, and what the node has emitted
pub record IsInstanceFiled (archive : Archived) (l : FiledInstance) : Type 0 where
  pub table : l.held.node.table ≡ sents_of l.held.rows
  pub rows : AreFiled archive l.held.rows
  pub emitted : AreFiled archive l.emitted

-- the numbers of the rows of a node at a slot, and of what it has emitted, are held
pub record IsInstanceHeld (marks : List Bool) (l : FiledInstance) : Type 0 where
  pub rows : AreHeld marks l.held.rows
  pub emitted : AreHeld marks l.emitted

-- ---- an open slot
-- an open slot: its number, and its nodes as they were filed
pub record FiledSlot : Type 0 where
  pub number : ℕ
  pub instances : List FiledInstance

pub record CountedSlot : Type 0 where
  pub number : ℕ
  pub instances : List CountedInstance

abbrev pub counted_slot : FiledSlot → CountedSlot
counted_slot s = record { number = s.number; instances = map counted_instance s.instances }

-- the slot of the definitions: its nodes without their counts
abbrev pub slot_of : CountedSlot → Slot
slot_of s = record { number = s.number; instances = map (λ x. x.instance) s.instances }

-- the archive has the rows and the emissions of all nodes at all open slots
abbrev pub AreSlotsFiled : Archived → List FiledSlot → Type 0
AreSlotsFiled archive slots = All (λ s. All (IsInstanceFiled archive) s.instances) slots

-- the numbers of the rows and the emissions of all nodes at all open slots are held
abbrev pub AreSlotsHeld : List Bool → List FiledSlot → Type 0
AreSlotsHeld marks slots = All (λ s. All (IsInstanceHeld marks) s.instances) slots

-- ---- what was drawn on shares
-- how many events that came from a name were drawn
abbrev pub events_from : List Tally → ℕ → ℕ
events_from [] u = 0
events_from (t ∷ ts) u = if t.from == u then t.events else events_from ts u

-- how many delivered bytes that came from a name were drawn
abbrev pub bytes_from : List Tally → ℕ → ℕ
bytes_from [] u = 0
bytes_from (t ∷ ts) u = if t.from == u then t.bytes else bytes_from ts u

-- the counts of a node are what was drawn on its shares of the slot
pub record IsTallied (i : ℕ) (draws : List Draw) (x : CountedInstance) : Type 0 where
  pub own : x.own ≡ events_drawn i (Own x.instance.node.name) draws
  pub events : (u : ℕ) → events_from x.heard u ≡ events_drawn i (Pair x.instance.node.name u) draws
  pub bytes : (u : ℕ) → bytes_from x.heard u ≡ bytes_drawn i (Pair x.instance.node.name u) draws

abbrev pub AreTallied : List Draw → List CountedSlot → Type 0
AreTallied draws slots = All (λ s. All (IsTallied s.number draws) s.instances) slots

-- ---- room that is made before an event
-- there is room for this many emissions more, for their places and for their marks
pub record HaveRoom (count : ℕ) (emitted : Vec Filed Global) (places : PlacesByKind) (marks : Vec ℕ Global)
    : Type 0 where
  pub emissions : vec_len emitted + count ≤ vec_capacity emitted
  pub nominations_room : vec_len places.nominations + count ≤ vec_capacity places.nominations
  pub ballots_room : vec_len places.ballots + count ≤ vec_capacity places.ballots
  pub marks_room : vec_len marks + count ≤ vec_capacity marks
