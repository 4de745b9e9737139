use Rattle.std.proofs.Common.{take}
use Rattle.std.specs.List.{All}
use Rattle.node_store.specs.Archives.{HoldsAll}
use Rattle.host_network.specs.FiledSlots.{IsInstanceHeld}
use Rattle.host_network.proofs.open_slot.OpenSlot.hold.Given as goal

abbrev pub invariant-loop-instance : goal.invariant-loop-instance
invariant-loop-instance l = record {
  held : All (IsInstanceHeld l.held) (take l.instance-index l.self.instances);
  kept : HoldsAll l.initial.held l.held;
}
