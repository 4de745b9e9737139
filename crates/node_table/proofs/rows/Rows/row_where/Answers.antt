use Rattle.std.proofs.Common.{◌∙◌, sym}
use Rattle.node_table.proofs.Placing.{row-at_place}
use Rattle.node_table.proofs.Tabled.{row-nowhere}
use Rattle.node_table.proofs.rows.Rows.row_where.Goals as goal

pub returns-in-None : goal.returns-in-None
returns-in-None g c = λ u kind is. sym (row-nowhere c.args.self.now u kind (sym is ∙ (sym c.get.ensures ∙ c.in-None.is)))

pub returns-in-Some : goal.returns-in-Some
returns-in-Some g c = λ u kind is. c.at.ensures ∙ row-at_place c.args.self.now u kind c.in-Some.place (sym is ∙ (sym c.get.ensures ∙ c.in-Some.is))
