use Rattle.std.proofs.Common.{◌∙◌, subst}
use Rattle.std.specs.Ordering.{nat_cmp}
use Rattle.std.specs.List.Sorted.{IsBinarySearchResult}
use Rattle.host_world.specs.Worlds.{IsPlaceOf}
use Rattle.host_world.proofs.ByNumber.{place-is}
use Rattle.host_world.proofs.world.World.place.Goals as goal

pub returns : goal.returns
returns g c =
    let view = c.self.view_is in
    let up = c.self.invariant.1.0 in
    let same = c.deref.ensures.value ∙ c.self.invariant.0 in
    subst (λ ls. IsPlaceOf ls c.args.number c.binary_search.result) view
    (place-is c.self.inside.journals.items c.args.number c.binary_search.result up (subst (λ ns. IsBinarySearchResult (λ y. nat_cmp y c.args.number) ns c.binary_search.result) same c.binary_search.ensures.position))
