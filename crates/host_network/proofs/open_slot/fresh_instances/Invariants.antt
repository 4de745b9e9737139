use Rattle.node_store.specs.Archives.{Archived}
use Rattle.std.proofs.Common.{◌≡◌, ◌++◌, map, drop}
use Rattle.std.specs.List.{All}
use Rattle.scp_spec.specs.Networks.{instances_of_new_slot}
use Rattle.host_network.specs.FiledSlots.{IsInstanceFiled, HasDrawnNothing, instance_of_filed}
use Rattle.host_network.proofs.open_slot.fresh_instances.Given as goal

abbrev pub invariant-loop-hosted : goal.invariant-loop-hosted
invariant-loop-hosted l = record {
  instances : map instance_of_filed l.instances.items ++ instances_of_new_slot (drop l.hosted-index l.nodes) l.number ≡ instances_of_new_slot l.nodes l.number;
  archived : (archive : Archived) → All (IsInstanceFiled archive) l.instances.items;
  counts : All HasDrawnNothing l.instances.items;
}
