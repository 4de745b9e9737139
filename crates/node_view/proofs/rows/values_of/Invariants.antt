use Rattle.std.proofs.Common.{◌≡◌, ◌≤◌, filter_map, flat_map, length, option_map}
use Rattle.scp_spec.specs.Candidates.{all_with, values_by}
use Rattle.scp_spec.specs.Rows.{row}
use Rattle.node_view.specs.Watching.{rows_by, values_in}
use Rattle.node_view.proofs.rows.values_of.Given as goal

abbrev pub invariant-loop-left : goal.invariant-loop-left
invariant-loop-left g l = record {
  within : length l.left ≤ length l.nodes;
  so_far : all_with (flat_map values_by (filter_map (λ u. option_map (λ e. e.body) (row l.table u l.kind)) l.left)) l.values ≡ values_in (rows_by l.kind l.table l.nodes);
}

abbrev pub decreases-loop-left : goal.decreases-loop-left
decreases-loop-left g l = length l.left
