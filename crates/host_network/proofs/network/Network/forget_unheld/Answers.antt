use Rattle.std.proofs.Common.{sym, subst, ◌∙◌}
use Rattle.node_store.specs.Archives.{Archived}
use Rattle.host_network.specs.Standing.{IsStanding, FiledMachine}
use Rattle.host_network.proofs.Forgetting.{standing-empty, standing-still}
use Rattle.host_network.proofs.network.Network.forget_unheld.Goals as goal

pub invariant_of-self : goal.invariant_of-self
invariant_of-self g c =
    let i = c.self.inside in
    let m : FiledMachine = record { config = i.config; archive = i.archive; slots = i.slots; events = i.events; bytes = i.bytes; opens = i.opens } in
    subst (λ (a : Archived). IsStanding (record m { archive = a })) (sym c.let_all_go.ensures) (standing-empty m (sym c.len.ensures ∙ c.if-len-eq0.true) c.self.invariant)

pub invariant_of-self-in-Ok : goal.invariant_of-self-in-Ok
invariant_of-self-in-Ok g c =
    let i = c.self.inside in
    let m : FiledMachine = record { config = i.config; archive = i.archive; slots = i.slots; events = i.events; bytes = i.bytes; opens = i.opens } in
    subst (λ (a : Archived). IsStanding (record m { archive = a })) (sym c.let_go.ensures) (standing-still m c.hold.new.held c.hold.ensures c.self.invariant)
