use Rattle.std.proofs.Common.{take}
use Rattle.host_network.specs.FiledSlots.{AreSlotsHeld}
use Rattle.host_network.proofs.open_slots.OpenSlots.hold.Given as goal

abbrev pub invariant-loop-slot : goal.invariant-loop-slot
invariant-loop-slot l = AreSlotsHeld l.held (take l.slot-index l.self)
