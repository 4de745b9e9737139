use Rattle.node_view.proofs.PlaceLaws.{AreSoFar}
use Rattle.node_view.proofs.region.row_places.Given as goal

abbrev pub invariant-loop-node : goal.invariant-loop-node
invariant-loop-node g l = AreSoFar l.table l.nodes l.node-index l.found
