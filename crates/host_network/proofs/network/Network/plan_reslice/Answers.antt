use Rattle.std.proofs.Common.{rules, ◌≡◌, ◌∙◌, Err, refl, sym, ap, subst, inl, inr}
use Rattle.scp_spec.specs.Networks.Step.{Reslices}
use Rattle.node_core.specs.declared.filed.FiledEvent.TheVariants as events
use Rattle.scp_types.specs.Trees.{Slices}
use Rattle.host_network.specs.Deeds.{IsPlanned, IsPlan}
use Rattle.host_network.specs.declared.plan.Deed.TheVariants.{Act}
use Rattle.host_network.specs.declared.plan.Plan.{Plan}
use Rattle.host_network.specs.Standing.{IsStanding}
use Rattle.host_network.proofs.Planned.{own-full, own-nowhere, own-plan, reslice-own}
use Rattle.host_network.proofs.network.Network.plan_reslice.Goals as goal

pub returns-in_err-spot : goal.returns-in_err-spot
returns-in_err-spot g c =
    let a = c.args in
    let r = c.in_err-spot.field-0.0 in
    let q : c.from_residual.result ≡ Err r = search rules in
    subst (IsPlanned a.self.now (Reslices a.slot a.node.now a.slices.now)) (sym q)
    (inr (own-nowhere a.self.now a.slot a.node.now (events.Reslice a.slices.now) (Reslices a.slot a.node.now a.slices.now) r c.in_err-spot.ensures (reslice-own a.slot a.node.now a.slices.now)))

pub own_room-requires-clause-slot : goal.own_room-requires-clause-slot
own_room-requires-clause-slot g c = (c.args.slot, c.in_ok-spot.ensures.slot)

pub returns-in_err-drawn : goal.returns-in_err-drawn
returns-in_err-drawn g c =
    let a = c.args in
    let r = c.in_err-drawn.field-0.0 in
    let q : c.from_residual-in_err-drawn.result ≡ Err r = search rules in
    subst (IsPlanned a.self.now (Reslices a.slot a.node.now a.slices.now)) (sym q)
    (inr (own-full a.self.now a.slot a.node.now c.in_ok-spot.spot (events.Reslice a.slices.now) (Reslices a.slot a.node.now a.slices.now) r c.in_ok-spot.ensures (c.in_err-drawn.ensures a.slot c.in_ok-spot.ensures.slot) (reslice-own a.slot a.node.now a.slices.now)))

pub returns-in-Err : goal.returns-in-Err
returns-in-Err g c =
    let a = c.args in
    let st : IsStanding a.self.now = subst IsStanding c.self.view_is c.self.invariant in
    let plan = own-plan a.self.now a.slot a.node.now c.in_ok-spot.spot (events.Reslice a.slices.now) c.in_ok-drawn.drawn (Reslices a.slot a.node.now a.slices.now) st c.in_ok-spot.ensures tt (c.in_ok-drawn.ensures a.slot c.in_ok-spot.ensures.slot) (reslice-own a.slot a.node.now a.slices.now) in
    inl (refl, inl plan.allowed)

pub returns-in-Ok : goal.returns-in-Ok
returns-in-Ok g c =
    let a = c.args in
    let st : IsStanding a.self.now = subst IsStanding c.self.view_is c.self.invariant in
    let of : Slices → Plan = λ q. record { deed = Act c.in_ok-spot.spot (events.Reslice q); charge = record { drawn = c.in_ok-drawn.drawn; size = 0 } } in
    let plan = own-plan a.self.now a.slot a.node.now c.in_ok-spot.spot (events.Reslice a.slices.now) c.in_ok-drawn.drawn (Reslices a.slot a.node.now a.slices.now) st c.in_ok-spot.ensures tt (c.in_ok-drawn.ensures a.slot c.in_ok-spot.ensures.slot) (reslice-own a.slot a.node.now a.slices.now) in
    subst (IsPlan a.self.now (Reslices a.slot a.node.now a.slices.now)) (ap of (sym c.in-Ok.ensures) ∙ sym c.plan_at.ensures) plan
