use Rattle.std.proofs.Common.{ℕ, ◌<◌, ap, length, sym, subst, ◌∙◌, get_or, set}
use Rattle.std.proofs.lemmas.List.{get_or_default}
use Rattle.std.proofs.lemmas.List.Edits.{map_over_more}
use Rattle.host_network.specs.SlotPlaces.{place_without}
use Rattle.host_network.specs.declared.slot_index.SlotPlace.{SlotPlace}
use Rattle.host_network.proofs.slot_index.close_up.Goals as goal

pub loop-entry-preserved : goal.loop-entry-preserved
loop-entry-preserved c =
    let ys = c.loop-entry.entries in
    let i = c.loop-entry.entry-index in
    let none : SlotPlace = record { number = 0; place = 0 } in
    let x = get_or ys i none in
    let l : i < length ys = subst (λ n. i < n) (sym c.loop-entry.auto.entries) c.loop-entry-test.true in
    ap (λ (n : ℕ). set ys i (record { number = x.number; place = n })) c.place_without.ensures
    ∙ map_over_more (λ (e : SlotPlace). record { number = e.number; place = place_without c.args.gone e.place })
    c.args.entries.now ys i x c.loop-entry-test.true c.loop-entry.invariant (get_or_default ys i none x l)
