use Rattle.std.proofs.Common.{rules, ◌≡◌, ◌<◌, ◌∙◌, None, get_or, length}
use Rattle.scp_spec.specs.Rows.{row}
use Rattle.node_view.proofs.Keeping.{row_there}
use Rattle.node_view.proofs.reached.ReachedRows.row_there.Goals as goal

pub returns-in-Some : goal.returns-in-Some
returns-in-Some g c =
    let rows = c.self.inside in
    let p = c.args.place in
    let inside : p < length rows.places.now = search rules in
    let there : c.in-Some.row.now ≡ get_or rows.places.now p None = search rules in
    c.row_where.ensures
    ∙ row_there rows.kind rows.table.now rows.nodes.now rows.places.now p _ c.self.invariant.0 inside there
    ∙ (λ i. row (c.self.view_is i).table (get_or (c.self.view_is i).nodes p 0) (c.self.view_is i).kind)
