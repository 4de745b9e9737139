use Rattle.scp_spec.proofs.Statements.Offers.{own_row-offered, other_row-offered}
use Rattle.scp_spec.proofs.rows.offers_change_one_row.Goals as goal

pub returns : goal.returns
returns c = record { own = own_row-offered; other = other_row-offered }
