use Rattle.scp_spec.proofs.Statements.Histories.{table-exact}
use Rattle.scp_spec.proofs.rows.rows_follow_from_all_offers.Goals as goal
use Rattle.scp_spec.proofs.Statements.Offers.{table_after-push}

pub returns : goal.returns
returns c = record { rows = table-exact; one_more = table_after-push }
