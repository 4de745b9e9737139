use Rattle.std.proofs.Common.{take}
use Rattle.scp_spec.specs.Sets.{among}
use Rattle.node_reach.specs.Searching.{Finds}
use Rattle.node_reach.proofs.search.Search.note_all.Given as goal

abbrev pub invariant-loop-node : goal.invariant-loop-node
invariant-loop-node l = Finds l.initial.self l.self (among (take l.node-index l.nodes))
