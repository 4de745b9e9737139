use Rattle.std.proofs.Common.{take}
use Rattle.node_store.specs.Archives.{AreHeld, HoldsAll}
use Rattle.host_network.proofs.instance.hold_all.Given as goal

abbrev pub invariant-loop-filed : goal.invariant-loop-filed
invariant-loop-filed l = record {
  held : AreHeld l.held (take l.filed-index l.all);
  kept : HoldsAll l.initial.held l.held;
}
