use Rattle.std.specs.Arc.{arc_slice_items}
use Rattle.std.proofs.Common.{◌∙◌}
use Rattle.scp_types.specs.declared.kind.Kind.TheVariants.{Nomination}
use Rattle.node_view.specs.Watching.{values_in}
use Rattle.node_view.proofs.FoundRows.{found_in}
use Rattle.node_view.proofs.SameRows.{same_values}
use Rattle.node_view.proofs.seeing.ViewSight.nominated_values.Goals as goal

pub returns : goal.returns
returns g c =
    let view = c.args.self.now in
    c.in_ok-values.ensures
    ∙ found_in view.own.now view.slices.now view.table.now (arc_slice_items view.region.now.nodes) view.known.reach.exactly view.single view.leaders.now Nomination view.nominations view.nominations_kept values_in same_values
