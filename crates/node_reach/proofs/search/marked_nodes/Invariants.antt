use Rattle.std.proofs.Common.{◌≡◌, ◌++◌, drop}
use Rattle.node_reach.specs.Searching.{with_marks}
use Rattle.node_reach.proofs.search.marked_nodes.Given as goal

abbrev pub invariant-loop-place : goal.invariant-loop-place
invariant-loop-place l = l.picked.items ++ with_marks (drop l.place l.nodes) (drop l.place l.marks) ≡ with_marks l.nodes l.marks
