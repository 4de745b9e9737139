use Rattle.scp_voting.specs.Questions.{asks, kind_asked}
use Rattle.node_view.proofs.RegionLaws.{none_where_unmet}
use Rattle.node_view.proofs.seeing.View.may_have_quorum.Goals as goal

pub returns : goal.returns
returns g c = λ fails.
    let view = c.args.self.now in
    let question = c.args.question.now in
    none_where_unmet view.own.now view.slices.now view.leaders.now view.table.now view.region.now view.known (kind_asked question) c.args.own_passes (asks question) c.rows_for.result.now c.rows_for.ensures
    c.forms_for-forms.result.now c.forms_for-forms.ensures c.index-forms-self.result c.index-forms-self.is c.meet.result c.meet.ensures fails
