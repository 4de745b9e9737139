use Rattle.std.specs.Arc.{arc_slice_items}
use Rattle.std.proofs.Common.{◌∙◌}
use Rattle.scp_types.specs.declared.kind.Kind.{Kind}
use Rattle.scp_voting.specs.Searching.{next_counter}
use Rattle.node_view.proofs.FoundRows.{found_in}
use Rattle.node_view.proofs.SameRows.{same_counter}
use Rattle.node_view.proofs.seeing.ViewSight.next_counter.Goals as goal

pub returns : goal.returns
returns g c =
    let view = c.args.self.now in
    c.next_counter.ensures
    ∙ found_in view.own.now view.slices.now view.table.now (arc_slice_items view.region.now.nodes) view.known.reach.exactly view.single view.leaders.now Kind.Ballot view.ballots view.ballots_kept (next_counter c.args.above) (same_counter c.args.above)
