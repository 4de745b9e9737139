use Rattle.std.proofs.Common.{List, length, rules, subst}
use Rattle.std.proofs.lemmas.List.Sorted.{answers_always}
use Rattle.std.specs.List.Sorted.{IsBinarySearchResult, IsSearchInRange}
use Rattle.std.specs.Ordering.{nat_cmp}
use Rattle.host_network.specs.Keyed.{IsKeyPlace}
use Rattle.host_network.specs.SlotPlaces.{number_kept}
use Rattle.host_network.specs.declared.slot_index.SlotPlace.{SlotPlace}
use Rattle.host_network.proofs.KeyPlaces.{key-place}
use Rattle.host_network.proofs.slot_index.SlotIndex.find.Goals as goal

pub returns : goal.returns
returns c =
    let facts = c.binary_search_by_key.ensures in
    let by_number = facts.position number_kept (answers_always _ _ _ (λ f a r g called. search rules)) in
    subst (λ (es : List SlotPlace). IsKeyPlace number_kept es c.args.number c.binary_search_by_key.result) c.self.view_is
    (key-place number_kept (record { number = 0; place = 0 }) c.self.inside.entries.items c.args.number c.self.invariant c.binary_search_by_key.result
    (subst (λ (es : List SlotPlace). IsSearchInRange c.binary_search_by_key.result (length es)) c.deref.ensures.value facts.bound)
    (subst (λ (es : List SlotPlace). IsBinarySearchResult (λ (e : SlotPlace). nat_cmp e.number c.args.number) es c.binary_search_by_key.result) c.deref.ensures.value by_number))
