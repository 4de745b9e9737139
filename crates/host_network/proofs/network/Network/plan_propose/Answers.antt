use Rattle.std.proofs.Common.{rules, ◌≡◌, ◌∙◌, true, false, Err, refl, sym, ap, subst, inl, inr}
use Rattle.scp_spec.specs.Networks.{is_bad_value}
use Rattle.scp_spec.specs.Networks.Step.{Proposes}
use Rattle.node_core.specs.declared.filed.FiledEvent.TheVariants as events
use Rattle.std.specs.Prelude.{List, ℕ}
use Rattle.host_network.specs.Deeds.{IsPlanned, IsPlan}
use Rattle.host_network.specs.FiledSlots.{counted_instance}
use Rattle.host_network.specs.declared.plan.Deed.TheVariants.{Act}
use Rattle.host_network.specs.declared.plan.Plan.{Plan}
use Rattle.host_network.specs.Standing.{IsStanding, machine_of}
use Rattle.host_network.proofs.Plans.{instance-there}
use Rattle.host_network.proofs.Planned.{asks-again, asks-bad, asks-full, asks-nowhere, asks-plan}
use Rattle.host_network.proofs.network.Network.plan_propose.Goals as goal

pub returns-in_err-spot : goal.returns-in_err-spot
returns-in_err-spot g c =
    let m = c.args.self.now in
    let r = c.in_err-spot.field-0.0 in
    let e : c.from_residual.result ≡ Err r = search rules in
    subst (IsPlanned m (Proposes c.args.slot c.args.node.now c.args.value.now)) (sym e) (inr (asks-nowhere m c.args.slot c.args.node.now c.args.value.now r c.in_err-spot.ensures))

pub returns-then-is_bad : goal.returns-then-is_bad
returns-then-is_bad g c =
    let bad : is_bad_value c.args.value.now ≡ true = search rules in
    inr (asks-bad c.args.self.now c.args.slot c.args.node.now c.args.value.now c.in_ok-spot.spot c.in_ok-spot.ensures bad)

pub instance-requires : goal.instance-requires
instance-requires g c =
    let m = c.args.self.now in
    let st : IsStanding m = subst IsStanding c.self.view_is c.self.invariant in
    let y = instance-there (machine_of m) c.args.slot c.args.node.now c.in_ok-spot.spot.slot_at c.in_ok-spot.spot.node_at st.tidy c.in_ok-spot.ensures.slot c.in_ok-spot.ensures.node in
    (y.1, (y.0, y.2, y.3))

pub returns-then-has_proposal : goal.returns-then-has_proposal
returns-then-has_proposal g c =
    let m = c.args.self.now in
    let st : IsStanding m = subst IsStanding c.self.view_is c.self.invariant in
    let bad : is_bad_value c.args.value.now ≡ false = search rules in
    inr (asks-again m c.args.slot c.args.node.now c.args.value.now c.in_ok-spot.spot (counted_instance c.instance.result.now) c.has_proposal.result st c.in_ok-spot.ensures c.instance.ensures.counted bad c.has_proposal.ensures c.if-has_proposal.true)

pub own_room-requires-clause-slot : goal.own_room-requires-clause-slot
own_room-requires-clause-slot g c = (c.args.slot, c.in_ok-spot.ensures.slot)

pub returns-in_err-drawn : goal.returns-in_err-drawn
returns-in_err-drawn g c =
    let m = c.args.self.now in
    let st : IsStanding m = subst IsStanding c.self.view_is c.self.invariant in
    let r = c.in_err-drawn.field-0.0 in
    let e : c.from_residual-in_err-drawn.result ≡ Err r = search rules in
    let bad : is_bad_value c.args.value.now ≡ false = search rules in
    subst (IsPlanned m (Proposes c.args.slot c.args.node.now c.args.value.now)) (sym e)
    (inr (asks-full m c.args.slot c.args.node.now c.args.value.now c.in_ok-spot.spot (counted_instance c.instance.result.now) c.has_proposal.result r st c.in_ok-spot.ensures c.instance.ensures.counted bad c.has_proposal.ensures c.if-has_proposal.false (c.in_err-drawn.ensures c.args.slot c.in_ok-spot.ensures.slot)))

pub returns-in-Err : goal.returns-in-Err
returns-in-Err g c =
    let m = c.args.self.now in
    let st : IsStanding m = subst IsStanding c.self.view_is c.self.invariant in
    let bad : is_bad_value c.args.value.now ≡ false = search rules in
    let plan = asks-plan m c.args.slot c.args.node.now c.args.value.now c.in_ok-spot.spot (counted_instance c.instance.result.now) c.has_proposal.result c.in_ok-drawn.drawn st c.in_ok-spot.ensures c.instance.ensures.counted bad c.has_proposal.ensures c.if-has_proposal.false (c.in_ok-drawn.ensures c.args.slot c.in_ok-spot.ensures.slot) in
    inl (refl, inl plan.allowed)

pub returns-in-Ok : goal.returns-in-Ok
returns-in-Ok g c =
    let m = c.args.self.now in
    let st : IsStanding m = subst IsStanding c.self.view_is c.self.invariant in
    let bad : is_bad_value c.args.value.now ≡ false = search rules in
    let plan = asks-plan m c.args.slot c.args.node.now c.args.value.now c.in_ok-spot.spot (counted_instance c.instance.result.now) c.has_proposal.result c.in_ok-drawn.drawn st c.in_ok-spot.ensures c.instance.ensures.counted bad c.has_proposal.ensures c.if-has_proposal.false (c.in_ok-drawn.ensures c.args.slot c.in_ok-spot.ensures.slot) in
    let e : c.plan_at.result ≡ record { deed = Act c.in_ok-spot.spot (events.Propose c.args.value.now); charge = record { drawn = c.in_ok-drawn.drawn; size = 0 } } = c.plan_at.ensures ∙ ap (λ (x : List ℕ). record { deed = Act c.in_ok-spot.spot (events.Propose x); charge = record { drawn = c.in_ok-drawn.drawn; size = 0 } }) c.in-Ok.ensures in
    subst (λ (p : Plan). IsPlan m (Proposes c.args.slot c.args.node.now c.args.value.now) p) (sym e) plan
