use Rattle.std.proofs.Common.{rules, ◌≡◌, ◌==◌, false, Err, sym, subst}
use Rattle.host_network.specs.FiledSlots.{counted_instance}
use Rattle.scp_types.specs.declared.event.Refusal.TheVariants.{NoSuchNode, SlotNotOpen}
use Rattle.scp_spec.specs.Networks.Step.{Hears}
use Rattle.host_network.specs.Deeds.{IsPlan, IsPlannedSurely}
use Rattle.host_network.specs.declared.plan.Deed.TheVariants.{Act}
use Rattle.node_store.specs.declared.filed.Filed.{Filed}
use Rattle.node_core.specs.declared.filed.FiledEvent.TheVariants as events
use Rattle.host_network.specs.Standing.{IsStanding, machine_of}
use Rattle.host_network.proofs.Handings.{AreTwo, hearing, hears-closed, hears-full, hears-nobody, hears-nothing, hears-nowhere, hears-plan}
use Rattle.host_network.proofs.Plans.{instance-there}
use Rattle.host_network.proofs.network.Network.plan_hear.Goals as goal

pub returns-in_err-node_at : goal.returns-in_err-node_at
returns-in_err-node_at g c =
    let m = c.args.self.now in
    let e : c.from_residual.result ≡ Err NoSuchNode = search rules in
    subst (IsPlannedSurely m (Hears c.args.slot c.args.node.now c.args.emission.now.from c.args.emission.now.kind c.args.emission.now.number)) (sym e) (hears-nowhere m c.args.slot c.args.node.now c.args.emission.now.from c.args.emission.now.kind c.args.emission.now.number c.in_err-node_at.ensures.1)

pub returns-in_err-from_at : goal.returns-in_err-from_at
returns-in_err-from_at g c =
    let m = c.args.self.now in
    let e : c.from_residual-in_err-from_at.result ≡ Err NoSuchNode = search rules in
    subst (IsPlannedSurely m (Hears c.args.slot c.args.node.now c.args.emission.now.from c.args.emission.now.kind c.args.emission.now.number)) (sym e) (hears-nobody m c.args.slot c.args.node.now c.args.emission.now.from c.args.emission.now.kind c.args.emission.now.number c.in_err-from_at.ensures.1)

pub returns-in_err-slot_at : goal.returns-in_err-slot_at
returns-in_err-slot_at g c =
    let m = c.args.self.now in
    let i = c.args.slot in
    let u = c.args.node.now in
    let w = c.args.emission.now.from in
    let h = c.in_ok-node_at.node_at in
    let j = c.in_ok-from_at.from_at in
    let differ : (u == w) ≡ false = search rules in
    let two : AreTwo m u h w j = record { node = c.in_ok-node_at.ensures; from = c.in_ok-from_at.ensures; differ = differ } in
    let e : c.from_residual-in_err-slot_at.result ≡ Err SlotNotOpen = search rules in
    subst (IsPlannedSurely m (Hears i u w c.args.emission.now.kind c.args.emission.now.number)) (sym e) (hears-closed m i u h w j c.args.emission.now.kind c.args.emission.now.number two c.in_err-slot_at.ensures.1)

pub instance-requires : goal.instance-requires
instance-requires g c =
    let m = c.args.self.now in
    let st : IsStanding m = subst IsStanding c.self.view_is c.self.invariant in
    let y = instance-there (machine_of m) c.args.slot c.args.emission.now.from c.in_ok-slot_at.slot_at c.in_ok-from_at.from_at st.tidy c.in_ok-slot_at.ensures c.in_ok-from_at.ensures in
    (y.1, (y.0, y.2, y.3))

pub returns-in_default : goal.returns-in_default
returns-in_default g c =
    let a = c.args in
    let x = hearing a.self.now a.slot a.node.now c.in_ok-node_at.node_at a.emission.now.from c.in_ok-from_at.from_at c.in_ok-slot_at.slot_at a.emission.now.kind a.emission.now.number (counted_instance c.instance.result.now) c.emission.result
    c.self.view_is c.self.invariant c.in_ok-node_at.ensures c.in_ok-from_at.ensures (search rules) c.in_ok-slot_at.ensures c.instance.ensures.counted c.emission.ensures.sent in
    hears-nothing x c.in_default.is

pub returns-in_err-drawn : goal.returns-in_err-drawn
returns-in_err-drawn g c =
    let a = c.args in
    let x = hearing a.self.now a.slot a.node.now c.in_ok-node_at.node_at a.emission.now.from c.in_ok-from_at.from_at c.in_ok-slot_at.slot_at a.emission.now.kind a.emission.now.number (counted_instance c.instance.result.now) c.emission.result
    c.self.view_is c.self.invariant c.in_ok-node_at.ensures c.in_ok-from_at.ensures (search rules) c.in_ok-slot_at.ensures c.instance.ensures.counted c.emission.ensures.sent in
    let r = c.in_err-drawn.field-0.0 in
    let e : c.from_residual-in_err-drawn.result ≡ Err r = search rules in
    subst (IsPlannedSurely a.self.now (Hears a.slot a.node.now a.emission.now.from a.emission.now.kind a.emission.now.number)) (sym e)
    (hears-full c.in-Some.emitted r x c.in-Some.is (c.in_err-drawn.ensures.room a.slot c.in_ok-slot_at.ensures))

pub returns : goal.returns
returns g c =
    let a = c.args in
    let x = hearing a.self.now a.slot a.node.now c.in_ok-node_at.node_at a.emission.now.from c.in_ok-from_at.from_at c.in_ok-slot_at.slot_at a.emission.now.kind a.emission.now.number (counted_instance c.instance.result.now) c.emission.result
    c.self.view_is c.self.invariant c.in_ok-node_at.ensures c.in_ok-from_at.ensures (search rules) c.in_ok-slot_at.ensures c.instance.ensures.counted c.emission.ensures.sent in
    let d = c.in_ok-drawn.drawn in
    let filed = c.in-Some.ensures.filed a.self.now.archive c.instance.ensures.archived in
    let plan = hears-plan c.in-Some.emitted d x c.in-Some.is filed (c.in_ok-drawn.ensures.room a.slot c.in_ok-slot_at.ensures) in
    subst (λ (f : Filed). IsPlan a.self.now (Hears a.slot a.node.now a.emission.now.from a.emission.now.kind a.emission.now.number) (record { deed = Act (record { slot_at = c.in_ok-slot_at.slot_at; node_at = c.in_ok-node_at.node_at }) (events.Take f); charge = record { drawn = d; size = 0 } })) (sym c.copy_of.ensures) plan
