use Rattle.std.proofs.Common.{◌≡◌, ◌<◌, List, Some, ◌∙◌, length, map, sym, ap, subst, arith}
use Rattle.std.specs.List.{remove}
use Rattle.scp_spec.specs.Sets.{IsAscending}
use Rattle.host_config.specs.Configs.{index_in}
use Rattle.host_config.proofs.Names.{names-differ}
use Rattle.host_network.specs.SlotPlaces.{kept_for, kept_without, number_kept}
use Rattle.host_network.specs.declared.slot_index.SlotPlace.{SlotPlace}
use Rattle.host_network.proofs.KeyPlaces.{keys-remove}
use Rattle.host_network.proofs.SlotPlaceLaws.{closed-keys, kept-gone, kept-nowhere, written-back}
use Rattle.host_network.proofs.slot_index.SlotIndex.forget.Goals as goal

pub unreachable-requires : goal.unreachable-requires
unreachable-requires c =
    let none = kept-nowhere c.args.self.now c.args.number c.in_default.ensures.0 in
    let some = c.requires in
    absurd (cc)

pub invariant_of-self : goal.invariant_of-self
invariant_of-self c =
    let es = c.self.inside.entries.items in
    let inside = subst (λ (xs : List SlotPlace). c.in-Ok.at < length xs) (sym c.self.view_is) c.in-Ok.ensures.1 in
    let is =
    written-back es c.remove.new.self.items c.deref_mut.result.now c.close_up.new.entries c.remove.new.self.len
    c.args.place c.in-Ok.at c.remove.ensures.items c.deref_mut.ensures.value c.close_up.ensures
    (omega (arith, c.remove.new.self.ok)) in
    subst (λ (xs : List SlotPlace). IsAscending (map number_kept xs)) (sym is)
    (subst IsAscending (sym (closed-keys c.args.place (remove es c.in-Ok.at))) (keys-remove number_kept es c.in-Ok.at inside c.self.invariant))

pub returns : goal.returns
returns c = λ i.
    let es = c.self.inside.entries.items in
    let there = subst (λ (xs : List SlotPlace). index_in (map number_kept xs) c.args.number ≡ Some c.in-Ok.at) (sym c.self.view_is) c.in-Ok.ensures.0 in
    let is =
    written-back es c.remove.new.self.items c.deref_mut.result.now c.close_up.new.entries c.remove.new.self.len
    c.args.place c.in-Ok.at c.remove.ensures.items c.deref_mut.ensures.value c.close_up.ensures
    (omega (arith, c.remove.new.self.ok)) in
    ap (λ (xs : List SlotPlace). kept_for xs i) is
    ∙ kept-gone es c.args.number c.in-Ok.at c.args.place i (names-differ (map number_kept es) c.self.invariant) there
    ∙ ap (λ (xs : List SlotPlace). kept_without c.args.number c.args.place xs i) c.self.view_is
