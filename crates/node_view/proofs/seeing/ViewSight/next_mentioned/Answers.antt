use Rattle.std.specs.Arc.{arc_slice_items}
use Rattle.std.proofs.Common.{◌∙◌, List}
use Rattle.scp_types.specs.declared.kind.Kind.{Kind}
use Rattle.scp_types.specs.declared.statement.Statement.{Statement}
use Rattle.scp_voting.specs.Mentions.{mentioned_in}
use Rattle.scp_voting.specs.Searching.{next_under}
use Rattle.node_view.proofs.FoundRows.{found_in}
use Rattle.node_view.proofs.SameRows.{same_mentioned}
use Rattle.node_view.proofs.seeing.ViewSight.next_mentioned.Goals as goal

pub returns : goal.returns
returns g c =
    let view = c.args.self.now in
    c.next_mentioned.ensures
    ∙ found_in view.own.now view.slices.now view.table.now (arc_slice_items view.region.now.nodes) view.known.reach.exactly view.single view.leaders.now Kind.Ballot view.ballots view.ballots_kept
    (λ (ss : List Statement). next_under c.args.bound.now (mentioned_in c.args.mention ss)) (same_mentioned c.args.mention c.args.bound.now)
