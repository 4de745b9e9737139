use Rattle.line_script.proofs.StatementsRead.{statements_read_back}
use Rattle.line_script.proofs.statement.statements_read_back.Goals as goal

pub returns : goal.returns
returns c = statements_read_back
