use Rattle.std.proofs.Common.{◌≡◌, ◌∙◌, Some, None, sym, ap, subst}
use Rattle.host_config.specs.Configs.{index_of_name}
use Rattle.host_network.specs.FiledSlots.{counted_instance}
use Rattle.host_network.specs.Standing.{IsStanding, FiledMachine, machine_of}
use Rattle.host_network.proofs.Plans.{instance-there}
use Rattle.host_network.proofs.HostedAt.{closed-none, closed-not, found-there, found-value, stranger-none, stranger-not}
use Rattle.host_network.proofs.network.Network.hosted.Goals as goal

pub instance-requires : goal.instance-requires
instance-requires g c =
    let m = c.args.self.now in
    let st : IsStanding m = subst IsStanding c.self.view_is c.self.invariant in
    let node : index_of_name m.config.nodes c.args.node.now ≡ Some c.in-Some-place.node_at = ap (λ (x : FiledMachine). index_of_name x.config.nodes c.args.node.now) (sym c.self.view_is) ∙ (sym c.place.ensures ∙ c.in-Some-place.is) in
    let y = instance-there (machine_of m) c.args.slot c.args.node.now c.in-Some.slot_at c.in-Some-place.node_at st.tidy (sym c.slot_at.ensures ∙ c.in-Some.is) node in
    (y.1, (y.0, y.2, y.3))

pub returns-in-None-clause-value : goal.returns-in-None-clause-value
returns-in-None-clause-value g c = closed-none c.args.self.now c.args.slot c.args.node.now (sym c.slot_at.ensures ∙ c.in-None.is)

pub returns-in-None-clause-there : goal.returns-in-None-clause-there
returns-in-None-clause-there g c = closed-not c.args.self.now c.args.slot c.args.node.now (sym c.slot_at.ensures ∙ c.in-None.is)

pub returns-in-None-place-clause-value : goal.returns-in-None-place-clause-value
returns-in-None-place-clause-value g c =
    let m = c.args.self.now in
    let st : IsStanding m = subst IsStanding c.self.view_is c.self.invariant in
    let node : index_of_name m.config.nodes c.args.node.now ≡ None = ap (λ (x : FiledMachine). index_of_name x.config.nodes c.args.node.now) (sym c.self.view_is) ∙ (sym c.place.ensures ∙ c.in-None-place.is) in
    stranger-none m c.args.slot c.args.node.now st node

pub returns-in-None-place-clause-there : goal.returns-in-None-place-clause-there
returns-in-None-place-clause-there g c =
    let m = c.args.self.now in
    let node : index_of_name m.config.nodes c.args.node.now ≡ None = ap (λ (x : FiledMachine). index_of_name x.config.nodes c.args.node.now) (sym c.self.view_is) ∙ (sym c.place.ensures ∙ c.in-None-place.is) in
    stranger-not m c.args.slot c.args.node.now node

pub returns-in-Some-place-clause-value : goal.returns-in-Some-place-clause-value
returns-in-Some-place-clause-value g c =
    let m = c.args.self.now in
    let st : IsStanding m = subst IsStanding c.self.view_is c.self.invariant in
    let node : index_of_name m.config.nodes c.args.node.now ≡ Some c.in-Some-place.node_at = ap (λ (x : FiledMachine). index_of_name x.config.nodes c.args.node.now) (sym c.self.view_is) ∙ (sym c.place.ensures ∙ c.in-Some-place.is) in
    found-value m c.args.slot c.args.node.now c.in-Some.slot_at c.in-Some-place.node_at (counted_instance c.instance.result.now) st (sym c.slot_at.ensures ∙ c.in-Some.is) node c.instance.ensures.counted

pub returns-in-Some-place-clause-there : goal.returns-in-Some-place-clause-there
returns-in-Some-place-clause-there g c =
    let m = c.args.self.now in
    let node : index_of_name m.config.nodes c.args.node.now ≡ Some c.in-Some-place.node_at = ap (λ (x : FiledMachine). index_of_name x.config.nodes c.args.node.now) (sym c.self.view_is) ∙ (sym c.place.ensures ∙ c.in-Some-place.is) in
    found-there m c.args.slot c.args.node.now c.in-Some.slot_at c.in-Some-place.node_at (sym c.slot_at.ensures ∙ c.in-Some.is) node
