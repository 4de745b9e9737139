use Rattle.scp_spec.proofs.Statements.Newer.{statements_ordered, ties_are_one}
use Rattle.scp_spec.proofs.rows.statements_are_ordered.Goals as goal

pub returns : goal.returns
returns c = record { order = statements_ordered; ties = ties_are_one }
