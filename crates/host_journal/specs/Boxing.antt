-- Events that are kept in a box.
use Rattle.std.specs.Prelude.{◌≡◌, ◌||◌, ◌^◌, ℕ, Bool, true, false, is_some, nat_le}
use Rattle.scp_types.specs.declared.event.Event.{Event}
use Rattle.scp_types.specs.declared.event.Event.TheVariants.{OpenSlot, CloseSlot, Propose, Deliver, Hear, NominationTimer, BallotTimer, Reslice}
use Rattle.host_journal.specs.declared.event_room.EventRoom.{EventRoom}

-- a number has more than 32 bits
abbrev pub is_wide : ℕ → Bool
is_wide n = nat_le (2 ^ 32) n

-- an event brings a value or slices of its own, or tells of what was heard by wide numbers
abbrev pub is_large : Event → Bool
is_large (OpenSlot i) = false
is_large (CloseSlot i) = false
is_large (Propose i u x) = true
is_large (Deliver u bytes) = false
is_large (Hear i u from kind k) = is_wide i || is_wide k
is_large (NominationTimer i u r) = false
is_large (BallotTimer i u n) = false
is_large (Reslice i u q) = true

-- there is a box for an event if it is large
abbrev pub HasBoxFor : Event → EventRoom → Type 0
HasBoxFor e room = is_large e ≡ true → is_some room.boxed ≡ true
