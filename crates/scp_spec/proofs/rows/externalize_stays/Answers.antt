use Rattle.scp_spec.proofs.Statements.Offers.{externalize_row-stays}
use Rattle.scp_spec.proofs.rows.externalize_stays.Goals as goal

pub returns : goal.returns
returns c = externalize_row-stays
