use Rattle.std.proofs.Common.{◌≡◌, ◌<◌, IsTrue, ℕ, get_or, length}
use Rattle.scp_spec.specs.Sets.{among}
use Rattle.node_view.proofs.changing.moved_places.Given as goal

abbrev pub invariant-loop-node : goal.invariant-loop-node
invariant-loop-node l = record {
  counted : length l.places.items ≡ l.node-index;
  stands : (i : ℕ) → i < l.node-index → IsTrue (among l.all (get_or l.nodes i 0)) → (get_or l.places.items i 0 < length l.all) × (get_or l.all (get_or l.places.items i 0) 0 ≡ get_or l.nodes i 0);
}
