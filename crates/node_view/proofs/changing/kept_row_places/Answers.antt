use Rattle.std.proofs.Common.{◌≡◌, ◌<◌, IfSome, List, ℕ, get_or, length, subst, sym}
use Rattle.scp_spec.specs.Sets.{IsAscending}
use Rattle.node_view.proofs.PlaceLaws.{both_all, both_more}
use Rattle.node_view.proofs.changing.kept_row_places.Goals as goal

pub place_behind-place-requires : goal.place_behind-place-requires
place_behind-place-requires g c = subst (λ (us : List ℕ). IsAscending us) (sym c.deref.ensures.value) c.requires.ascending

pub places_of-requires-clause-place : goal.places_of-requires-clause-place
places_of-requires-clause-place g c =
    subst (λ (us : List ℕ). IfSome c.place_behind-place.result (λ i. (i < length us) × (get_or us i 0 ≡ c.node-item.result))) c.deref.ensures.value c.place_behind-place.ensures.place

pub loop-node-preserved : goal.loop-node-preserved
loop-node-preserved g c =
    let loop = c.loop-node in
    let places = c.places_of in
    both_more c.args.table.now c.args.nodes.now loop.node-index loop.found loop.invariant c.node-item.result places.result c.push.new.self c.loop-node-test.true c.node-item.is places.ensures.ballot places.ensures.nomination c.in_ok-push.ensures.ballots c.in_ok-push.ensures.nominations

pub returns : goal.returns
returns g c =
    let loop = c.loop-node in
    both_all c.args.table.now c.args.nodes.now loop.node-index loop.found loop.invariant c.loop-node-test.false
