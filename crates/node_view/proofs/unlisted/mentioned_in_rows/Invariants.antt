use Rattle.std.proofs.Common.{◌≡◌, drop, filter_map, flat_map}
use Rattle.scp_voting.specs.Searching.{better_under, next_under}
use Rattle.scp_spec.specs.Rows.{row}
use Rattle.scp_voting.specs.Mentions.{mentioned_by, mentioned_in}
use Rattle.node_view.specs.Watching.{rows_of_others, said_by_another}
use Rattle.node_view.proofs.unlisted.mentioned_in_rows.Given as goal

abbrev pub invariant-loop-place : goal.invariant-loop-place
invariant-loop-place g l =
    better_under l.best l.bound (flat_map (mentioned_by l.mention) (filter_map (λ u. said_by_another l.own (row l.rows.table u l.rows.kind)) (drop l.place l.rows.nodes))) ≡ next_under l.bound (mentioned_in l.mention (rows_of_others l.own l.rows.kind l.rows.table l.rows.nodes))
