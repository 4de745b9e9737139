use Rattle.std.proofs.Common.{rules, ◌≡◌, ◌∙◌, ◌∷◌, [], sym, ap}
use Rattle.std.specs.Map.{values_of}
use Rattle.live_feed.specs.Lasting.{without_all, without_slots}
use Rattle.live_feed.proofs.LastingLines.{one_slot_gone}
use Rattle.live_feed.proofs.lasting.NetworkLines.forget_slots.Goals as goal

pub loop-slot-preserved : goal.loop-slot-preserved
loop-slot-preserved c =
    let parts : c.loop-slot.slot-iterator ≡ c.in-Some.slot.now ∷ c.next.new.self = search rules in
    let gone : c.forget.new.entries.entries ≡ without_all c.in-Some.slot.now.lines c.loop-slot.events.entries = search rules in
    one_slot_gone (values_of c.args.self.now.slots) _ _ c.in-Some.slot.now _ _ _ parts gone c.loop-slot.invariant

pub returns : goal.returns
returns c =
    let none : c.loop-slot.slot-iterator ≡ [] = search rules in
    sym (ap (λ (slots : _). without_slots slots c.loop-slot.events.entries) none) ∙ c.loop-slot.invariant
