use Rattle.node_view.proofs.WordLaws.{AreEmpty}
use Rattle.node_view.proofs.words.first_place.Given as goal

abbrev pub invariant-loop-index : goal.invariant-loop-index
invariant-loop-index l = AreEmpty l.index l.places
