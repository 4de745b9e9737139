use Rattle.scp_spec.proofs.Statements.Offers.{single-after}
use Rattle.scp_spec.proofs.rows.rows_are_single.Goals as goal

pub returns : goal.returns
returns c = single-after
