-- Where among the open slots of a network the slot of a number stands.
use Rattle.std.specs.Prelude.{◌≡◌, ℕ, ◌-◌, ◌==◌, nat_lt, List, map, Option, None, Some, option_map, if◌then◌else◌}
use Rattle.host_config.specs.Configs.{index_in}
use Rattle.host_network.specs.Keyed.{at_key}
use Rattle.host_network.specs.FiledSlots.{FiledSlot}
use Rattle.host_network.specs.declared.slot_index.SlotPlace.{SlotPlace}

-- ---- places that are kept by number
-- the number of a slot whose place is kept
abbrev pub number_kept : SlotPlace → ℕ
number_kept e = e.number

-- the place that is kept for the number of a slot
abbrev pub kept_for : List SlotPlace → ℕ → Option ℕ
kept_for es i = at_key number_kept (λ e. e.place) es i

-- a place, once what stood at another one is gone: one less if it lay behind that
abbrev pub place_without : ℕ → ℕ → ℕ
place_without k n = if nat_lt k n then n - 1 else n

-- the places that are kept, once what stood at one is gone: one less if they lay behind it
abbrev pub slot_places_without : ℕ → List SlotPlace → List SlotPlace
slot_places_without k es = map (λ e. record { number = e.number; place = place_without k e.place }) es

-- what is kept for a number, once a place is kept for another one too
abbrev pub kept_with : ℕ → ℕ → List SlotPlace → ℕ → Option ℕ
kept_with number place es i = if number == i then Some place else kept_for es i

-- what is kept for a number, once the slot of another one is gone from this place
abbrev pub kept_without : ℕ → ℕ → List SlotPlace → ℕ → Option ℕ
kept_without number place es i = if number == i then None else option_map (place_without place) (kept_for es i)

-- ---- the open slots
-- the numbers of open slots, in order
abbrev pub slot_numbers : List FiledSlot → List ℕ
slot_numbers slots = map (λ s. s.number) slots

-- for each number the place of its slot is kept, and none if no open slot has it
pub record AreSlotsIndexed (slots : List FiledSlot) (index : List SlotPlace) : Type 0 where
  pub finds : (i : ℕ) → kept_for index i ≡ index_in (slot_numbers slots) i
