use Rattle.std.proofs.Common.{rules, ◌≡◌, Err, sym, subst}
use Rattle.host_network.specs.Deeds.{IsPlannedSurely, IsPlan}
use Rattle.host_network.specs.declared.plan.Plan.{Plan}
use Rattle.host_network.specs.Standing.{IsStanding}
use Rattle.host_network.proofs.Planned.{own-full, own-nowhere, own-plan}
use Rattle.host_network.proofs.network.Network.plan_own.Goals as goal

pub returns-in_err-spot : goal.returns-in_err-spot
returns-in_err-spot g c =
    let m = c.args.self.now in
    let r = c.in_err-spot.field-0.0 in
    let q : c.from_residual.result ≡ Err r = search rules in
    λ e own. subst (IsPlannedSurely m e) (sym q) (own-nowhere m c.args.slot c.args.node.now c.args.event e r c.in_err-spot.ensures own)

pub own_room-requires-clause-slot : goal.own_room-requires-clause-slot
own_room-requires-clause-slot g c = (c.args.slot, c.in_ok-spot.ensures.slot)

pub returns-in_err-drawn : goal.returns-in_err-drawn
returns-in_err-drawn g c =
    let m = c.args.self.now in
    let r = c.in_err-drawn.field-0.0 in
    let q : c.from_residual-in_err-drawn.result ≡ Err r = search rules in
    λ e own. subst (IsPlannedSurely m e) (sym q) (own-full m c.args.slot c.args.node.now c.in_ok-spot.spot c.args.event e r c.in_ok-spot.ensures (c.in_err-drawn.ensures c.args.slot c.in_ok-spot.ensures.slot) own)

pub returns : goal.returns
returns g c =
    let m = c.args.self.now in
    let st : IsStanding m = subst IsStanding c.self.view_is c.self.invariant in
    λ e own. subst (λ (p : Plan). IsPlan m e p) (sym c.plan_at.ensures) (own-plan m c.args.slot c.args.node.now c.in_ok-spot.spot c.args.event c.in_ok-drawn.drawn e st c.in_ok-spot.ensures c.requires (c.in_ok-drawn.ensures c.args.slot c.in_ok-spot.ensures.slot) own)
