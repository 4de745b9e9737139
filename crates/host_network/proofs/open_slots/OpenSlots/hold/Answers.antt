use Rattle.std.proofs.Common.{◌≡◌, ◌+◌, ◌≤◌, ◌∙◌, List, length, subst, sym, take}
use Rattle.host_network.specs.FiledSlots.{AreSlotsHeld, FiledSlot}
use Rattle.host_network.proofs.Forgetting.{HasInstancesHeld, all-of, one-more-slot}
use Rattle.host_network.proofs.open_slots.OpenSlots.hold.Goals as goal

pub loop-slot-preserved : goal.loop-slot-preserved
loop-slot-preserved c =
    let now = c.loop-slot.held in
    let new = c.hold.new.held in
    let there = c.deref-slot-items.result.now in
    let same : there ≡ c.args.self.now = c.deref-slot-items.ensures.value ∙ c.self.view_is in
    subst (λ (ss : List FiledSlot). AreSlotsHeld new (take (c.loop-slot.slot-index + 1) ss)) same
    (one-more-slot now new there c.loop-slot.slot-index c.slot-item.result c.loop-slot-test.true c.slot-item.is c.hold.ensures.kept c.hold.ensures.held
    (subst (λ (ss : List FiledSlot). AreSlotsHeld now (take c.loop-slot.slot-index ss)) (sym same) c.loop-slot.invariant))

pub returns : goal.returns
returns c =
    let same = c.deref-slot-items.ensures.value ∙ c.self.view_is in
    all-of (HasInstancesHeld c.loop-slot.held) c.args.self.now c.loop-slot.slot-index
    (subst (λ (ss : List FiledSlot). length ss ≤ c.loop-slot.slot-index) same c.loop-slot-test.false) c.loop-slot.invariant
