use Rattle.std.proofs.Common.{rules, ◌≡◌, ◌∙◌, true, false, is_some, Err, refl, sym, ap, subst, inl, inr, not, nat_lt, length, map}
use Rattle.scp_spec.specs.Networks.{instances_of_new_slot, source}
use Rattle.scp_spec.specs.Networks.Step.{Opens}
use Rattle.host_network.specs.Deeds.{IsPlanned, index_of_slot}
use Rattle.host_network.specs.FiledSlots.{slot_of}
use Rattle.host_network.specs.Standing.{FiledMachine, machine_of}
use Rattle.host_network.proofs.Openings.{none-so, opens-again-so, opens-allowed, opens-full, opens-many, opens-plan}
use Rattle.host_network.proofs.Planned.{room-err, room-ok}
use Rattle.host_network.proofs.network.Network.plan_open.Goals as goal

pub returns-then-is_some : goal.returns-then-is_some
returns-then-is_some g c =
    let m = c.args.self.now in
    let t : is_some (index_of_slot (map slot_of (machine_of m).slots) c.args.slot) ≡ true = search rules in
    inr (opens-again-so m c.args.slot t)

pub returns-then-slots_are_full : goal.returns-then-slots_are_full
returns-then-slots_are_full g c =
    let m = c.args.self.now in
    let f : is_some (index_of_slot (map slot_of (machine_of m).slots) c.args.slot) ≡ false = search rules in
    let none = none-so (index_of_slot (map slot_of (machine_of m).slots) c.args.slot) f in
    let l : not (nat_lt (length m.slots) m.config.budgets.slots) ≡ true = search rules in
    inr (opens-many m c.args.slot none l)

pub has_room-requires : goal.has_room-requires
has_room-requires g c = (source c.args.self.now.config.roster (Opens c.args.slot), c.openings-drawn.ensures.opens c.args.slot)

pub returns-in_err-has_room : goal.returns-in_err-has_room
returns-in_err-has_room g c =
    let m = c.args.self.now in
    let f : is_some (index_of_slot (map slot_of (machine_of m).slots) c.args.slot) ≡ false = search rules in
    let none = none-so (index_of_slot (map slot_of (machine_of m).slots) c.args.slot) f in
    let l : not (nat_lt (length m.slots) m.config.budgets.slots) ≡ false = search rules in
    let r = c.in_err-has_room.field-0.0 in
    let e : c.from_residual.result ≡ Err r = search rules in
    subst (IsPlanned m (Opens c.args.slot)) (sym e)
    (inr (opens-full m c.args.slot r none l (room-err m (λ o. source o (Opens c.args.slot)) c.openings-drawn.result r (c.openings-drawn.ensures.opens c.args.slot) c.in_err-has_room.ensures)))

pub returns-in-Err : goal.returns-in-Err
returns-in-Err g c =
    let m = c.args.self.now in
    let f : is_some (index_of_slot (map slot_of (machine_of m).slots) c.args.slot) ≡ false = search rules in
    let none = none-so (index_of_slot (map slot_of (machine_of m).slots) c.args.slot) f in
    let l : not (nat_lt (length m.slots) m.config.budgets.slots) ≡ false = search rules in
    let room = room-ok m (λ o. source o (Opens c.args.slot)) c.openings-drawn.result (c.openings-drawn.ensures.opens c.args.slot) c.in_ok-has_room.ensures in
    inl (refl, inl (opens-allowed m c.args.slot c.openings-drawn.result none l room))

pub returns-in-Ok : goal.returns-in-Ok
returns-in-Ok g c =
    let m = c.args.self.now in
    let f : is_some (index_of_slot (map slot_of (machine_of m).slots) c.args.slot) ≡ false = search rules in
    let none = none-so (index_of_slot (map slot_of (machine_of m).slots) c.args.slot) f in
    let l : not (nat_lt (length m.slots) m.config.budgets.slots) ≡ false = search rules in
    let o = c.in-Ok.ensures in
    opens-plan m c.args.slot c.openings-drawn.result c.in-Ok.opened none l (room-ok m (λ o. source o (Opens c.args.slot)) c.openings-drawn.result (c.openings-drawn.ensures.opens c.args.slot) c.in_ok-has_room.ensures) o.number (o.instances ∙ ap (λ (x : FiledMachine). instances_of_new_slot x.config.nodes c.args.slot) c.self.view_is) o.archived o.counts
