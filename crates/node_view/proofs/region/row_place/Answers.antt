use Rattle.std.proofs.Common.{◌∙◌, sym}
use Rattle.node_view.proofs.PlaceLaws.{stands_behind, stands_there}
use Rattle.node_view.proofs.region.row_place.Goals as goal

pub returns-in-None : goal.returns-in-None
returns-in-None g c = λ e at. stands_behind e c.args.table.now (sym c.in-None.is ∙ c.get.ensures ∙ sym at) ∙ sym c.end.ensures

pub returns-in-Some : goal.returns-in-Some
returns-in-Some g c = λ e at. stands_there e c.args.table.now c.in-Some.field-0 (sym c.in-Some.is ∙ c.get.ensures ∙ sym at) ∙ sym c.in-Some.is ∙ c.get.ensures
