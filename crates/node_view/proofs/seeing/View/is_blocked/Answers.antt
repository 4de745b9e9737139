use Rattle.std.proofs.Common.{◌∙◌}
use Rattle.scp_voting.specs.Questions.{asks, kind_asked}
use Rattle.node_view.proofs.RegionLaws.{blocking_asked, blocking_met}
use Rattle.node_view.proofs.seeing.View.is_blocked.Goals as goal

pub returns-in_default : goal.returns-in_default
returns-in_default g c =
    let view = c.args.self.now in
    let question = c.args.question.now in
    blocking_met view.own.now view.slices.now view.leaders.now view.table.now view.region.now view.known (kind_asked question) c.args.own_passes (asks question) c.rows_for.result.now c.rows_for.ensures c.is_met_by.result c.is_met_by.ensures

pub returns : goal.returns
returns g c =
    let view = c.args.self.now in
    let question = c.args.question.now in
    c.is_met.ensures
    ∙ blocking_asked view.own.now view.slices.now view.leaders.now view.table.now view.region.now view.known (kind_asked question) c.args.own_passes (asks question) c.rows_for.result.now c.rows_for.ensures c.add_groups.new.places c.add_groups.ensures
