-- What a deed makes of the open slots, and by which numbers its emissions are named.
use Rattle.std.specs.Prelude.{◌≡◌, ℕ, ◌<◌, length, List, [], ◌∷◌, ◌++◌, map, slice_get, None, true}
use Rattle.std.specs.List.{All, remove}
use Rattle.scp_types.specs.Trees.{all_differ}
use Rattle.scp_types.specs.declared.event.NodeEvent.{NodeEvent}
use Rattle.scp_spec.specs.Networks.{Slot, emissions}
use Rattle.node_store.specs.Archives.{Archived}
use Rattle.node_core.specs.Filings.{IsFiledEvent, event_of}
use Rattle.host_config.specs.Configs.{index_in}
use Rattle.host_network.specs.Charges.{HasReadyNode, IsSlotActed}
use Rattle.host_network.specs.Changes.{IsChangedAt}
use Rattle.host_network.specs.Deeds.{instance_at, outs_of_deed}
use Rattle.host_network.specs.FiledSlots.{FiledSlot, IsInstanceFiled, counted_slot, slot_of}
use Rattle.host_network.specs.Marks.{numbers_by_kind, emitted_at}
use Rattle.host_network.specs.SlotPlaces.{slot_numbers}
use Rattle.host_network.specs.declared.plan.Charge.{Charge}
use Rattle.host_network.specs.declared.plan.Deed.{Deed}
use Rattle.host_network.specs.declared.plan.Deed.TheVariants.{Open, Close, Act, Hand}

-- open slots of the definitions: their envelopes whole, and no counts
abbrev pub slots_of : List FiledSlot → List Slot
slots_of slots = map slot_of (map counted_slot slots)

-- a deed can be done: its places are there, the archive has its envelope, and no number of a slot would stand twice
abbrev pub IsDoable : Archived → Charge → List FiledSlot → Deed → Type 0
IsDoable archive c slots (Open s) = All (IsInstanceFiled archive) s.instances × (index_in (slot_numbers slots) s.number ≡ None)
IsDoable archive c slots (Close k) = (k < length slots) × (all_differ (slot_numbers slots) ≡ true)
IsDoable archive c slots (Act at e) = HasReadyNode c slots at.slot_at at.node_at × IsFiledEvent archive e
IsDoable archive c slots (Hand at e) = HasReadyNode c slots at.slot_at at.node_at

-- the open slots after a deed, with what is counted at a node
abbrev pub IsDone : Charge → Deed → List FiledSlot → List FiledSlot → Type 0
IsDone c (Open s) old new = new ≡ old ++ s ∷ []
IsDone c (Close k) old new = new ≡ remove old k
IsDone c (Act at e) old new = IsChangedAt (IsSlotActed c at.node_at (event_of e)) at.slot_at old new
IsDone c (Hand at e) old new = IsChangedAt (IsSlotActed c at.node_at (NodeEvent.Take e)) at.slot_at old new

-- by which numbers hearings name the emissions of a deed
abbrev pub marks_after : List Slot → Deed → List ℕ
marks_after slots (Open s) = []
marks_after slots (Close k) = []
marks_after slots (Act at e) =
    numbers_by_kind (emitted_at (instance_at (slice_get slots at.slot_at) at.node_at)) (emissions (outs_of_deed slots (Act at e)))
marks_after slots (Hand at e) =
    numbers_by_kind (emitted_at (instance_at (slice_get slots at.slot_at) at.node_at)) (emissions (outs_of_deed slots (Hand at e)))
