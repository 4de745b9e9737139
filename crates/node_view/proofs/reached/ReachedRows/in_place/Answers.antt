use Rattle.std.proofs.Common.{arith}
use Rattle.node_view.proofs.Keeping.{places_of_all}
use Rattle.node_view.proofs.reached.ReachedRows.in_place.Goals as goal

pub invariant_of-result : goal.invariant_of-result
invariant_of-result g c = (
  places_of_all c.args.kind c.args.table.now c.args.nodes.now c.args.places.now c.requires,
  λ i inside. absurd (omega (arith, inside)),
)
