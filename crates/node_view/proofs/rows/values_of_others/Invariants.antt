use Rattle.std.proofs.Common.{◌≡◌, ◌≤◌, filter_map, flat_map, length, take}
use Rattle.scp_spec.specs.Candidates.{all_with, values_by}
use Rattle.scp_spec.specs.Rows.{row}
use Rattle.node_view.specs.Watching.{rows_of_others, said_by_another, values_in}
use Rattle.node_view.proofs.rows.values_of_others.Given as goal

abbrev pub invariant-loop-place : goal.invariant-loop-place
invariant-loop-place g l = record {
  within : l.place ≤ length l.rows.nodes;
  so_far : all_with (flat_map values_by (filter_map (λ u. said_by_another l.own (row l.rows.table u l.rows.kind)) (take l.place l.rows.nodes))) l.values ≡ values_in (rows_of_others l.own l.rows.kind l.rows.table l.rows.nodes);
}

abbrev pub decreases-loop-place : goal.decreases-loop-place
decreases-loop-place g l = l.place
