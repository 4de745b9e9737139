use Rattle.std.proofs.Common.{rules}
use Rattle.line_table.proofs.RunLaws.{own_three}
use Rattle.line_table.proofs.table_run.configured_in.Goals.{in_default-via-then-fields-lt3, in_default-via-else-fields-lt3+else-fields-lt4}
use Rattle.line_table.proofs.table_run.configured_in.Goals as goal

pub returns-in_default-clause-none : goal.returns-in_default-clause-none
returns-in_default-clause-none c =
    elim c.in_default.branch [
      | in_default-via-then-fields-lt3 w ↦ own_three _ c.args.fields.now (λ three. search rules)
      | in_default-via-else-fields-lt3+else-fields-lt4 w ↦ own_three _ c.args.fields.now (λ three. search rules)
    ]
