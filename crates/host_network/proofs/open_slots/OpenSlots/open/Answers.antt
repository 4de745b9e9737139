use Rattle.std.proofs.Common.{◌≡◌, ℕ, List, [], ◌∷◌, ◌++◌, None, ◌∙◌, sym, ap, ap₂, subst, length, arith}
use Rattle.host_config.specs.Configs.{index_in}
use Rattle.host_network.specs.FiledSlots.{FiledSlot}
use Rattle.host_network.specs.SlotPlaces.{AreSlotsIndexed, kept_with, slot_numbers}
use Rattle.host_network.proofs.SlotPlaceLaws.{indexed-more}
use Rattle.host_network.proofs.open_slots.OpenSlots.open.Goals as goal

pub invariant_of-self-2 : goal.invariant_of-self-2
invariant_of-self-2 c =
    let slots = c.self.inside.slots.items in
    let none = subst (λ (ss : List FiledSlot). index_in (slot_numbers ss) c.args.slot.number ≡ None) (sym c.self.view_is) c.requires in
    let kept = ap (λ (ss : List FiledSlot). length ss) c.reserve.ensures.items in
    let many : c.len.result ≡ length slots = omega (arith, c.len.ensures, c.reserve.new.self.ok, kept) in
    let is = c.push_reserved.ensures.items ∙ ap (λ (ss : List FiledSlot). ss ++ c.args.slot ∷ []) c.reserve.ensures.items in
    subst (λ (ss : List FiledSlot). AreSlotsIndexed ss c.note.new.self) (sym is)
    (indexed-more slots c.args.slot c.self.inside.index c.note.new.self none c.self.invariant
    (λ i. c.in_ok-note.ensures.noted i ∙ ap₂ (λ (n k : ℕ). kept_with n k c.self.inside.index i) c.number.ensures many))
