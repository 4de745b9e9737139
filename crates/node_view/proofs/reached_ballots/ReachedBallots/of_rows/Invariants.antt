use Rattle.std.proofs.Common.{Bor, filter_map, option_map, take}
use Rattle.scp_types.specs.declared.statement.Statement.{Statement}
use Rattle.scp_spec.specs.Candidates.{committed_by, committed_in, named_by, named_in}
use Rattle.scp_spec.specs.Rows.{row}
use Rattle.node_view.specs.Listing.{AreListed}
use Rattle.node_view.specs.Watching.{said_by_another}
use Rattle.node_view.proofs.ListedLaws.{HasListed}
use Rattle.node_view.proofs.reached_ballots.ReachedBallots.of_rows.Given as goal

abbrev pub invariant-loop-place : goal.invariant-loop-place
invariant-loop-place g l = record {
  named : AreListed l.named (named_in (filter_map (λ u. said_by_another l.own (row l.rows.table u l.rows.kind)) (take l.place l.rows.nodes)));
  committed : AreListed l.committed (committed_in (filter_map (λ u. said_by_another l.own (row l.rows.table u l.rows.kind)) (take l.place l.rows.nodes)));
  last_named : HasListed named_by l.named (option_map (λ (s : Bor Statement). s.now) l.last);
  last_committed : HasListed committed_by l.committed (option_map (λ (s : Bor Statement). s.now) l.last);
}
