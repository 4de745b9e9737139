use Rattle.std.proofs.Common.{◌∙◌, ap, ap₂}
use Rattle.scp_types.specs.Statements.{Sent}
use Rattle.scp_spec.specs.Newer.{is_newer}
use Rattle.node_table.proofs.WaysBack.{taken-filed}
use Rattle.node_table.proofs.table.Table.is_newer_than_row.Goals as goal

pub returns : goal.returns
returns g c =
    c.is_newer.ensures
    ∙ (ap₂ is_newer c.body.ensures.value (c.body-2.ensures.value ∙ ap (λ (x : Sent). x.body) c.read.ensures)
    ∙ taken-filed c.self.inside.rows.items c.args.self.now c.args.envelope.now c.args.place c.index.result.now c.self.view_is c.requires.row c.index.ensures)
