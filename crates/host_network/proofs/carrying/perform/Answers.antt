use Rattle.std.proofs.Common.{List, IfOk, sym, subst}
use Rattle.scp_types.specs.declared.event.NodeEvent.{NodeEvent}
use Rattle.node_core.specs.Filings.{event_of}
use Rattle.host_network.specs.declared.plan.Deed.{Deed}
use Rattle.host_network.specs.Deeds.{envelope_to_file, outs_of_deed}
use Rattle.host_network.specs.Answers.{IsOutcome}
use Rattle.host_network.specs.Doings.{marks_after, slots_of}
use Rattle.host_network.specs.FiledSlots.{AreSlotsFiled, FiledSlot}
use Rattle.host_network.proofs.SlotPlaceLaws.{indexed-acted}
use Rattle.host_network.proofs.carrying.perform.Goals as goal

pub act-requires-clause-archived : goal.act-requires-clause-archived
act-requires-clause-archived g c = subst (λ (ss : List FiledSlot). AreSlotsFiled c.args.archive.now ss) (sym c.slots.view_is) c.requires.archived

pub invariant_of-slots : goal.invariant_of-slots
invariant_of-slots g c =
    let e = event_of c.in-Act.event in
    let old = c.slots.inside.slots.items in
    indexed-acted c.act.result c.args.charge.now c.in-Act.spot.node_at c.in-Act.spot.slot_at e old c.act.new.slots.items
    c.slots.inside.index c.act.ensures.done c.act.ensures.err c.slots.invariant

pub hand-requires-clause-archived : goal.hand-requires-clause-archived
hand-requires-clause-archived g c = subst (λ (ss : List FiledSlot). AreSlotsFiled c.args.archive.now ss) (sym c.slots-in-Hand.view_is) c.requires.archived

pub invariant_of-slots-in-Hand : goal.invariant_of-slots-in-Hand
invariant_of-slots-in-Hand g c =
    let e = NodeEvent.Take c.in-Hand.envelope in
    let old = c.slots-in-Hand.inside.slots.items in
    indexed-acted c.hand.result c.args.charge.now c.in-Hand.spot.node_at c.in-Hand.spot.slot_at e old c.hand.new.slots.items
    c.slots-in-Hand.inside.index c.hand.ensures.done c.hand.ensures.err c.slots-in-Hand.invariant

pub returns-in-Open-clause-outcome : goal.returns-in-Open-clause-outcome
returns-in-Open-clause-outcome g c =
    let before = slots_of c.args.slots.now in
    subst (λ (d : Deed). IfOk c.open.result (IsOutcome (outs_of_deed before d) (marks_after before d) (envelope_to_file d) c.args.archive.now)) (sym c.in-Open.is) c.open.ensures.outcome

pub returns-in-Close-clause-outcome : goal.returns-in-Close-clause-outcome
returns-in-Close-clause-outcome g c =
    let before = slots_of c.args.slots.now in
    subst (λ (d : Deed). IsOutcome (outs_of_deed before d) (marks_after before d) (envelope_to_file d) c.args.archive.now c.close.result) (sym c.in-Close.is) c.close.ensures.outcome
