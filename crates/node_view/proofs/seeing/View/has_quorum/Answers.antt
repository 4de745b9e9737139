use Rattle.scp_voting.specs.Questions.{asks, kind_asked}
use Rattle.node_view.proofs.RegionLaws.{quorum_asked}
use Rattle.node_view.proofs.seeing.View.has_quorum.Goals as goal

pub returns : goal.returns
returns g c =
    let view = c.args.self.now in
    let question = c.args.question.now in
    quorum_asked view.own.now view.slices.now view.leaders.now view.table.now view.region.now view.known (kind_asked question) c.args.own_passes (asks question) c.rows_for.result.now c.rows_for.ensures
    c.forms_for.result.now c.forms_for.ensures c.add_to.new.places c.add_to.ensures c.in_quorum.result c.in_quorum.ensures
