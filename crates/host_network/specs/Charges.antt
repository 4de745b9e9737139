-- What an event adds to the counts of its node, and what that leaves of the nodes of a network.
use Rattle.std.specs.Prelude.{◌≡◌, ◌⊎◌, ℕ, ◌<◌, ◌≤◌, ◌+◌, ◌^◌, ◌==◌, List, Some, slice_get, if◌then◌else◌, ⊤}
use Rattle.scp_types.specs.declared.event.NodeEvent.{NodeEvent}
use Rattle.scp_spec.specs.Networks.{after_event}
use Rattle.host_network.specs.Changes.{IsChangedAt}
use Rattle.host_network.specs.FiledSlots.{FiledInstance, FiledSlot, bytes_from, events_from, instance_of_filed}
use Rattle.host_network.specs.TallyBooks.{TallyBook}
use Rattle.host_network.specs.declared.plan.Charge.{Charge}
use Rattle.host_network.specs.declared.plan.Drawn.{Drawn}
use Rattle.host_network.specs.declared.plan.Drawn.TheVariants.{Budgets, Opens, Own, Pair}
use Rattle.host_network.specs.declared.tallies.Tally.{Tally}

-- ---- on what it counts
-- what an event counts on a node's own share: one if it draws on that, else nothing
abbrev pub on_own : Drawn → ℕ
on_own (Own at) = 1
on_own _ = 0

-- what an event counts on what a node gets from a name: this many if it draws on that, else nothing
abbrev pub on_pair : Drawn → ℕ → ℕ → ℕ
on_pair (Pair at w) n u = if w == u then n else 0
on_pair _ n u = 0

-- what an event counts on the budgets of the network: this many if it draws on them, else nothing
abbrev pub on_budgets_of : Drawn → ℕ → ℕ
on_budgets_of Budgets n = n
on_budgets_of _ n = 0

-- what an event counts on openings and closings: one if it draws on them, else nothing
abbrev pub on_opens_of : Drawn → ℕ
on_opens_of Opens = 1
on_opens_of _ = 0

-- with what an event draws on them, the counts of the network stay at most 2^40
abbrev pub HasRoomOnNetwork : Drawn → ℕ → ℕ → ℕ → ℕ → Type 0
HasRoomOnNetwork Budgets n events bytes opens = (events < 2 ^ 40) × (bytes + n ≤ 2 ^ 40)
HasRoomOnNetwork Opens n events bytes opens = opens < 2 ^ 40
HasRoomOnNetwork _ n events bytes opens = ⊤

-- ---- at a node
-- its counts are those of before and what is counted
pub record IsCharged (c : Charge) (old new : FiledInstance) : Type 0 where
  pub own : new.own ≡ old.own + on_own c.drawn
  pub events : (u : ℕ) → events_from new.heard u ≡ events_from old.heard u + on_pair c.drawn 1 u
  pub bytes : (u : ℕ) → bytes_from new.heard u ≡ bytes_from old.heard u + on_pair c.drawn c.size u

-- with n bytes more the count stays at most 2^40, or n is 0
abbrev pub FitsOrNone : ℕ → ℕ → Type 0
FitsOrNone bytes n = (bytes + n ≤ 2 ^ 40) ⊎ (n ≡ 0)

-- with what an event draws on them, the counts of a node stay at most 2^40
abbrev pub HasRoomInCounts : Drawn → ℕ → ℕ → List Tally → Type 0
HasRoomInCounts (Own at) n own heard = own < 2 ^ 40
HasRoomInCounts (Pair at u) n own heard = (events_from heard u < 2 ^ 40) × FitsOrNone (bytes_from heard u) n
HasRoomInCounts _ n own heard = ⊤

-- with what an event draws on them, the counts of a node at a slot stay at most 2^40
abbrev pub HasRoomForCharge : Charge → FiledInstance → Type 0
HasRoomForCharge c l = HasRoomInCounts c.drawn c.size l.own l.heard

-- there is room for the tally of one more name, if an event draws on what comes from one
abbrev pub HasRoomToTally : Drawn → TallyBook → Type 0
HasRoomToTally (Pair at u) b = 0 < b.room
HasRoomToTally _ b = ⊤

-- a node took one event, which is counted at it
pub record IsActed (c : Charge) (e : NodeEvent) (old new : FiledInstance) : Type 0 where
  pub instance : instance_of_filed new ≡ after_event e (instance_of_filed old)
  pub charged : IsCharged c old new

-- ---- at the open slots
-- the node at this place of a slot took one event, which is counted at it
pub record IsSlotActed (c : Charge) (h : ℕ) (e : NodeEvent) (old new : FiledSlot) : Type 0 where
  pub number : new.number ≡ old.number
  pub instances : IsChangedAt (IsActed c e) h old.instances new.instances

-- there is a node at these places, whose counts stay at most 2^40 with what is counted
pub record HasReadyNode (c : Charge) (slots : List FiledSlot) (k h : ℕ) : Type 0 where
  pub slot : FiledSlot
  pub instance : FiledInstance
  pub slot_is : slice_get slots k ≡ Some slot
  pub instance_is : slice_get slot.instances h ≡ Some instance
  pub room : HasRoomForCharge c instance
