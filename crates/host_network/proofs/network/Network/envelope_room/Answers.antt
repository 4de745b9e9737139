use Rattle.std.proofs.Common.{rules, ◌≡◌, ◌∙◌, true, false, None, is_some, Ok, Err, sym, ap, subst, map}
use Rattle.host_config.specs.Configs.{index_of_name}
use Rattle.host_network.specs.FiledSlots.{slot_of}
use Rattle.scp_types.specs.declared.event.Refusal.TheVariants.{NoSuchNode, SlotNotOpen}
use Rattle.scp_spec.specs.Networks.Reading.{Read}
use Rattle.host_network.specs.Deeds.{index_of_slot}
use Rattle.host_network.specs.Standing.{IsStanding, machine_of}
use Rattle.host_network.proofs.Handings.{bytes-nowhere, envelope-closed, envelope-full, envelope-large, envelope-plan, reaching, sender-hosted-so, sender-room}
use Rattle.host_network.proofs.Openings.{none-so}
use Rattle.host_network.proofs.network.Network.envelope_room.Goals as goal

pub returns-in_err-node_at : goal.returns-in_err-node_at
returns-in_err-node_at g c =
    let e : c.from_residual.result ≡ Err NoSuchNode = search rules in
    rw e (bytes-nowhere c.args.self.now c.args.node.now c.args.size (Read c.args.envelope.now) c.in_err-node_at.ensures.1)

pub returns-then-is_some : goal.returns-then-is_some
returns-then-is_some g c =
    let m = c.args.self.now in
    let u = c.args.node.now in
    let env = c.args.envelope.now in
    let t : is_some (index_of_name m.config.nodes env.sender) ≡ true = search rules in
    sender-hosted-so m u c.in_ok-node_at.node_at c.args.size env c.in_ok-node_at.ensures t

pub returns-in_err-slot_at : goal.returns-in_err-slot_at
returns-in_err-slot_at g c =
    let m = c.args.self.now in
    let u = c.args.node.now in
    let env = c.args.envelope.now in
    let f : is_some (index_of_name m.config.nodes env.sender) ≡ false = search rules in
    let free = none-so (index_of_name m.config.nodes env.sender) f in
    let e : c.from_residual-in_err-slot_at.result ≡ Err SlotNotOpen = search rules in
    let closed : index_of_slot (map slot_of (machine_of m).slots) env.slot ≡ None = ap (λ i. index_of_slot (map slot_of (machine_of m).slots) i) (sym c.slot.ensures) ∙ c.in_err-slot_at.ensures.1 in
    rw e (envelope-closed m u c.in_ok-node_at.node_at c.args.size env c.in_ok-node_at.ensures free closed)

pub returns-in_err-drawn : goal.returns-in_err-drawn
returns-in_err-drawn g c =
    let a = c.args in
    let reach = reaching a.self.now a.node.now c.in_ok-node_at.node_at c.in_ok-slot_at.slot_at c.slot.result a.envelope.now c.in_ok-node_at.ensures (search rules) c.slot.ensures c.in_ok-slot_at.ensures in
    let r = c.in_err-drawn.field-0.0 in
    let e : c.from_residual-in_err-drawn.result ≡ Err r = search rules in
    let full = sender-room reach (Err r) c.sender-2.ensures.value c.in_err-drawn.ensures.room in
    rw e (envelope-full a.size r reach full)

pub returns-in_err-has_room_for_bytes : goal.returns-in_err-has_room_for_bytes
returns-in_err-has_room_for_bytes g c =
    let a = c.args in
    let reach = reaching a.self.now a.node.now c.in_ok-node_at.node_at c.in_ok-slot_at.slot_at c.slot.result a.envelope.now c.in_ok-node_at.ensures (search rules) c.slot.ensures c.in_ok-slot_at.ensures in
    let room = sender-room reach (Ok c.in_ok-drawn.drawn) c.sender-2.ensures.value c.in_ok-drawn.ensures.room in
    let r = c.in_err-has_room_for_bytes.field-0.0 in
    let e : c.from_residual-in_err-has_room_for_bytes.result ≡ Err r = search rules in
    rw e (envelope-large a.size c.in_ok-drawn.drawn r reach room c.in_err-has_room_for_bytes.ensures)

pub returns : goal.returns
returns g c =
    let a = c.args in
    let reach = reaching a.self.now a.node.now c.in_ok-node_at.node_at c.in_ok-slot_at.slot_at c.slot.result a.envelope.now c.in_ok-node_at.ensures (search rules) c.slot.ensures c.in_ok-slot_at.ensures in
    let room = sender-room reach (Ok c.in_ok-drawn.drawn) c.sender-2.ensures.value c.in_ok-drawn.ensures.room in
    envelope-plan a.size c.in_ok-drawn.drawn (subst IsStanding c.self.view_is c.self.invariant) reach room c.in_ok-has_room_for_bytes.ensures
