use Rattle.scp_spec.proofs.Statements.Newer.{newer-itself, newer-along}
use Rattle.scp_spec.proofs.rows.newer_is_strict.Goals as goal

pub returns : goal.returns
returns c = record { itself = newer-itself; along = newer-along }
