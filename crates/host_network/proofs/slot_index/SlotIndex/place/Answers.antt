use Rattle.std.proofs.Common.{List, get_or, sym, ◌∙◌, ap}
use Rattle.host_network.specs.declared.slot_index.SlotPlace.{SlotPlace}
use Rattle.host_network.proofs.SlotPlaceLaws.{kept-at, kept-nowhere}
use Rattle.host_network.proofs.slot_index.SlotIndex.place.Goals as goal

pub returns-in-Ok : goal.returns-in-Ok
returns-in-Ok c =
    let read = c.index.ensures ∙ ap (λ (es : List SlotPlace). get_or es c.in-Ok.at c.index.result.now) c.self.view_is in
    sym (kept-at c.args.self.now c.args.number c.in-Ok.at c.index.result.now c.in-Ok.ensures.0 c.in-Ok.ensures.1 read)

pub returns-in-Err : goal.returns-in-Err
returns-in-Err c = sym (kept-nowhere c.args.self.now c.args.number c.in-Err.ensures.0)
