use Rattle.std.proofs.Common.{sym, subst}
use Rattle.std.specs.List.{All}
use Rattle.std.proofs.lemmas.List.Elements.{All-get_or}
use Rattle.node_core.specs.Filings.{event_of}
use Rattle.host_network.specs.Charges.{IsSlotActed}
use Rattle.host_network.specs.FiledSlots.{FiledSlot, IsInstanceFiled}
use Rattle.host_network.proofs.Done.{given-seen, instance-room, slots-archived, within}
use Rattle.host_network.proofs.Placed.{acted, placed}
use Rattle.host_network.proofs.carrying.act.Goals as goal

pub act-requires-clause-archived : goal.act-requires-clause-archived
act-requires-clause-archived g c =
    let P = λ (s : FiledSlot). All (IsInstanceFiled c.args.archive.now) s.instances in
    let l = within c.args.slots.now.items c.args.spot.now.slot_at c.requires.ready.slot c.requires.ready.slot_is in
    subst P (sym c.index_mut.ensures.value) (All-get_or P c.args.slots.now.items c.args.spot.now.slot_at c.index_mut.result.now l c.requires.archived)

pub act-requires-clause-room : goal.act-requires-clause-room
act-requires-clause-room g c = instance-room c.args.charge.now c.args.slots.now.items c.args.spot.now.slot_at c.args.spot.now.node_at c.index_mut.result.now c.requires.ready c.index_mut.ensures.value

pub returns-clause-done : goal.returns-clause-done
returns-clause-done g c =
    let l = within c.args.slots.now.items c.args.spot.now.slot_at c.requires.ready.slot c.requires.ready.slot_is in
    let h = c.args.spot.now.node_at in
    let e = event_of c.args.event in
    placed c.act.result (IsSlotActed c.args.charge.now h e) c.args.slots.now.items c.args.spot.now.slot_at c.index_mut.result.now c.act.new.self l c.index_mut.ensures.value
    (acted c.act.result c.args.charge.now h e c.index_mut.result.now c.act.new.self c.act.ensures.number c.act.ensures.acted)

pub returns-clause-outcome : goal.returns-clause-outcome
returns-clause-outcome g c =
    given-seen c.args.charge.now c.args.slots.now.items c.args.spot.now.slot_at c.args.spot.now.node_at c.index_mut.result.now (event_of c.args.event) c.act.new.archive c.act.result c.requires.ready c.index_mut.ensures.value c.act.ensures.outcome

pub returns-clause-archived : goal.returns-clause-archived
returns-clause-archived g c = slots-archived c.args.archive.now c.act.new.archive c.args.slots.now.items c.args.spot.now.slot_at c.act.new.self c.act.ensures.kept c.act.ensures.archived c.requires.archived
