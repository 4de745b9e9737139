use Rattle.node_view.proofs.WordLaws.{JoinedTo}
use Rattle.node_view.proofs.words.join_places.Given as goal

abbrev pub invariant-loop-index : goal.invariant-loop-index
invariant-loop-index l = JoinedTo l.index l.fn.places l.more l.places
