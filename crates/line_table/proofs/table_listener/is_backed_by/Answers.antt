use Rattle.line_table.proofs.Backed.{backed-by_view}
use Rattle.line_table.proofs.table_listener.is_backed_by.Goals as goal

pub returns : goal.returns
returns g c = backed-by_view (record { configured = c.args.configured.now; rows = c.args.rows.now }) c.args.ballot.now _ _ _ _ _ c.in_ok-view.ensures c.in_ok-claim.ensures c.is_claim_backed-own_passes.ensures c.in_ok-answer.ensures
