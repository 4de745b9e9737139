use Rattle.std.proofs.Common.{rules, ◌≡◌, Err, sym, subst}
use Rattle.scp_types.specs.declared.event.Refusal.TheVariants.{SlotNotOpen}
use Rattle.scp_spec.specs.Networks.{source}
use Rattle.scp_spec.specs.Networks.Step.{Closes}
use Rattle.host_network.specs.Deeds.{IsPlannedSurely}
use Rattle.host_network.specs.Standing.{IsStanding}
use Rattle.host_network.proofs.Openings.{closes-full, closes-nowhere, closes-plan}
use Rattle.host_network.proofs.Planned.{room-err, room-ok}
use Rattle.host_network.proofs.network.Network.plan_close.Goals as goal

pub returns-in_err-slot_at : goal.returns-in_err-slot_at
returns-in_err-slot_at g c =
    let m = c.args.self.now in
    let e : c.from_residual.result ≡ Err SlotNotOpen = search rules in
    subst (IsPlannedSurely m (Closes c.args.slot)) (sym e) (closes-nowhere m c.args.slot c.in_err-slot_at.ensures.1)

pub has_room-requires : goal.has_room-requires
has_room-requires g c = (source c.args.self.now.config.roster (Closes c.args.slot), c.openings-drawn.ensures.closes c.args.slot)

pub returns-in_err-has_room : goal.returns-in_err-has_room
returns-in_err-has_room g c =
    let m = c.args.self.now in
    let r = c.in_err-has_room.field-0.0 in
    let e : c.from_residual-in_err-has_room.result ≡ Err r = search rules in
    subst (IsPlannedSurely m (Closes c.args.slot)) (sym e)
    (closes-full m c.args.slot c.in_ok-slot_at.slot_at r c.in_ok-slot_at.ensures (room-err m (λ o. source o (Closes c.args.slot)) c.openings-drawn.result r (c.openings-drawn.ensures.closes c.args.slot) c.in_err-has_room.ensures))

pub returns : goal.returns
returns g c =
    let m = c.args.self.now in
    let st : IsStanding m = subst IsStanding c.self.view_is c.self.invariant in
    closes-plan m c.args.slot c.in_ok-slot_at.slot_at c.openings-drawn.result st c.in_ok-slot_at.ensures (room-ok m (λ o. source o (Closes c.args.slot)) c.openings-drawn.result (c.openings-drawn.ensures.closes c.args.slot) c.in_ok-has_room.ensures)
