use Rattle.std.proofs.Common.{◌≡◌, drop, filter_map, flat_map}
use Rattle.scp_spec.specs.Rows.{row}
use Rattle.node_view.specs.Listing.{is_one_of}
use Rattle.scp_voting.specs.Mentions.{mentioned_by}
use Rattle.node_view.specs.Watching.{rows_of_others, said_by_another}
use Rattle.node_view.proofs.mentions.is_mentioned_by_one.Given as goal

abbrev pub invariant-loop-place : goal.invariant-loop-place
invariant-loop-place g l =
    is_one_of (flat_map (mentioned_by l.mention) (filter_map (λ u. said_by_another l.own (row l.rows.table u l.rows.kind)) (drop l.place l.rows.nodes))) l.ballot
    ≡ is_one_of (flat_map (mentioned_by l.mention) (rows_of_others l.own l.rows.kind l.rows.table l.rows.nodes)) l.ballot
