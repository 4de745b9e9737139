use Rattle.std.proofs.Common.{sym, subst}
use Rattle.host_network.specs.Deeds.{IsInstanceThere}
use Rattle.host_network.specs.FiledSlots.{IsInstanceFiled}
use Rattle.host_network.specs.Standing.{FiledMachine, machine_of}
use Rattle.host_network.proofs.Emitted.{archived-at}
use Rattle.host_network.proofs.network.Network.instance.Goals as goal

pub returns-clause-archived : goal.returns-clause-archived
returns-clause-archived g c =
    let w = subst (λ (m : FiledMachine). IsInstanceThere (machine_of m) c.args.slot_at c.args.node_at) (sym c.self.view_is) c.requires in
    subst (λ (m : FiledMachine). IsInstanceFiled m.archive c.index-instances-node_at.result) c.self.view_is
    (archived-at c.self.inside.archive c.self.inside.slots c.args.slot_at c.args.node_at c.slot.result.now c.instances.result.now c.index-instances-node_at.result w.1.0 w.0 c.self.invariant.archived w.1.1 w.1.2 c.slot.ensures c.instances.ensures c.index-instances-node_at.is)
