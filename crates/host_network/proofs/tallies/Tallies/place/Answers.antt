use Rattle.std.proofs.Common.{ℕ, List, length, rules, subst}
use Rattle.std.proofs.Math.Path.{fun_ext}
use Rattle.std.proofs.lemmas.List.Sorted.{answers_always}
use Rattle.std.specs.List.Sorted.{IsBinarySearchResult, IsSearchInRange}
use Rattle.std.specs.Ordering.{nat_cmp}
use Rattle.std.specs.declared.cmp.Ordering.{Ordering}
use Rattle.scp_types.proofs.NameOrder.{name_cmp_is}
use Rattle.host_network.specs.TallyBooks.{IsTallyPlace, TallyBook}
use Rattle.host_network.specs.declared.tallies.Tally.{Tally}
use Rattle.host_network.proofs.KeyPlaces.{key-place}
use Rattle.host_network.proofs.tallies.Tallies.place.Goals as goal

pub returns : goal.returns
returns c =
    let facts = c.binary_search_by_key.ensures in
    let by_order = facts.position (λ (t : Tally). t.from) (answers_always _ _ _ (λ f a r g called. search rules)) in
    let by_number = subst (λ (f : ℕ → Ordering). IsBinarySearchResult (λ (t : Tally). f t.from) c.deref.result.now c.binary_search_by_key.result) (fun_ext (λ y. name_cmp_is y c.args.from.now)) by_order in
    subst (λ (b : TallyBook). IsTallyPlace b.tallies c.args.from.now c.binary_search_by_key.result) c.self.view_is
    (key-place (λ (t : Tally). t.from) (record { from = 0; events = 0; bytes = 0 }) c.self.inside.entries.items c.args.from.now c.self.invariant c.binary_search_by_key.result
    (subst (λ (ts : List Tally). IsSearchInRange c.binary_search_by_key.result (length ts)) c.deref.ensures.value facts.bound)
    (subst (λ (ts : List Tally). IsBinarySearchResult (λ (t : Tally). nat_cmp t.from c.args.from.now) ts c.binary_search_by_key.result) c.deref.ensures.value by_number))
