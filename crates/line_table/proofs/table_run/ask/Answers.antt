use Rattle.line_table.specs.Listeners.{IsBacked}
use Rattle.line_table.specs.TableLines.{Backs}
use Rattle.line_table.proofs.RunLaws.{said}
use Rattle.line_table.proofs.table_run.ask.Goals as goal

pub returns-then-branch-clause-backs : goal.returns-then-branch-clause-backs
returns-then-branch-clause-backs c =
    let backed : IsBacked c.args.listener.now c.args.ballot.now = c.in_ok-is_backed.ensures.answer.0 c.if-branch.true in
    said _ _ (Backs c.args.listener.now c.args.ballot.now) c.say.result (Backs.yes backed) c.say.ensures.said

pub returns-else-branch-clause-backs : goal.returns-else-branch-clause-backs
returns-else-branch-clause-backs c =
    let not_backed : ¬ IsBacked c.args.listener.now c.args.ballot.now = λ backed. let yes = c.in_ok-is_backed.ensures.answer.1 backed in cc in
    said _ _ (Backs c.args.listener.now c.args.ballot.now) c.say-else-branch.result (Backs.no not_backed) c.say-else-branch.ensures.said
