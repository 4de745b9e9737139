use Rattle.std.proofs.Common.{subst, Ok, Err, List, ℕ}
use Rattle.std.specs.Ordering.{nat_cmp}
use Rattle.std.specs.List.Sorted.{IsBinarySearchResult}
use Rattle.pool_workers.proofs.Numbers.{found, absent}
use Rattle.pool_workers.proofs.shared.Shared.find.Goals as goal

pub returns-in-Ok : goal.returns-in-Ok
returns-in-Ok g c =
    let position = subst (λ r. IsBinarySearchResult (λ y. nat_cmp y c.args.number) c.deref.result.now r) c.in-Ok.is c.binary_search.ensures.position in
    found c.args.self.now.numbers.items c.args.self.now.cells.items c.args.number c.in-Ok.place c.requires
    (subst (λ (ns : List ℕ). IsBinarySearchResult (λ y. nat_cmp y c.args.number) ns (Ok c.in-Ok.place)) c.deref.ensures.value position)

pub returns-in-Err : goal.returns-in-Err
returns-in-Err g c =
    let position = subst (λ r. IsBinarySearchResult (λ y. nat_cmp y c.args.number) c.deref.result.now r) c.in-Err.is c.binary_search.ensures.position in
    absent c.args.self.now.numbers.items c.args.self.now.cells.items c.args.number c.in-Err.field-0 c.requires
    (subst (λ (ns : List ℕ). IsBinarySearchResult (λ y. nat_cmp y c.args.number) ns (Err c.in-Err.field-0)) c.deref.ensures.value position)
