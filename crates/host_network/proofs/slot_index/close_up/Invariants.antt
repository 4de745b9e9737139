use Rattle.std.proofs.Common.{◌≡◌, ◌++◌, take, drop}
use Rattle.host_network.specs.SlotPlaces.{slot_places_without}
use Rattle.host_network.proofs.slot_index.close_up.Given as goal

abbrev pub invariant-loop-entry : goal.invariant-loop-entry
invariant-loop-entry l = l.entries ≡ slot_places_without l.gone (take l.entry-index l.initial.entries) ++ drop l.entry-index l.initial.entries
