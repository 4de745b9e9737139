use Rattle.std.proofs.Common.{◌≡◌, drop, filter_map}
use Rattle.scp_voting.specs.Searching.{next_counter}
use Rattle.scp_spec.specs.Rows.{row}
use Rattle.node_view.specs.Watching.{lesser_of, rows_of_others, said_by_another}
use Rattle.node_view.proofs.searching.next_counter.Given as goal

abbrev pub invariant-loop-place : goal.invariant-loop-place
invariant-loop-place g l =
    lesser_of l.least (next_counter l.above (filter_map (λ u. said_by_another l.own (row l.rows.table u l.rows.kind)) (drop l.place l.rows.nodes))) ≡ next_counter l.above (rows_of_others l.own l.rows.kind l.rows.table l.rows.nodes)
