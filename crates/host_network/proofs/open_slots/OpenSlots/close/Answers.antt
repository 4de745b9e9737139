use Rattle.std.proofs.Common.{◌≡◌, ◌<◌, ℕ, List, ◌∙◌, length, sym, ap, subst, true}
use Rattle.scp_types.specs.Trees.{all_differ}
use Rattle.host_network.specs.FiledSlots.{FiledSlot}
use Rattle.host_network.specs.SlotPlaces.{AreSlotsIndexed, kept_for, kept_without, slot_numbers}
use Rattle.host_network.proofs.SlotPlaceLaws.{indexed-less, stands-at}
use Rattle.host_network.proofs.open_slots.OpenSlots.close.Goals as goal

pub forget-requires : goal.forget-requires
forget-requires c =
    let slots = c.self.inside.slots.items in
    let apart = subst (λ (ss : List FiledSlot). all_differ (slot_numbers ss) ≡ true) (sym c.self.view_is) c.requires.apart in
    let within = subst (λ (ss : List FiledSlot). c.args.place < length ss) (sym c.self.view_is) c.requires.at in
    ap (kept_for c.self.inside.index) c.number.ensures
    ∙ c.self.invariant.finds c.remove-closed.result.number
    ∙ stands-at slots c.args.place c.remove-closed.result apart within c.remove-closed.ensures.value

pub invariant_of-self : goal.invariant_of-self
invariant_of-self c =
    let slots = c.self.inside.slots.items in
    let apart = subst (λ (ss : List FiledSlot). all_differ (slot_numbers ss) ≡ true) (sym c.self.view_is) c.requires.apart in
    let within = subst (λ (ss : List FiledSlot). c.args.place < length ss) (sym c.self.view_is) c.requires.at in
    subst (λ (ss : List FiledSlot). AreSlotsIndexed ss c.forget.new.self) (sym c.remove-closed.ensures.items)
    (indexed-less slots c.args.place c.remove-closed.result c.self.inside.index c.forget.new.self apart within
    c.remove-closed.ensures.value c.self.invariant
    (λ i. c.forget.ensures i ∙ ap (λ (n : ℕ). kept_without n c.args.place c.self.inside.index i) c.number.ensures))
