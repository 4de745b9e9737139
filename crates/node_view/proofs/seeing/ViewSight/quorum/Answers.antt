use Rattle.scp_voting.specs.Questions.{asks, kind_asked}
use Rattle.node_view.proofs.Sightings.{own_fails}
use Rattle.node_view.proofs.seeing.ViewSight.quorum.Goals as goal

pub returns-then-not-own_passes : goal.returns-then-not-own_passes
returns-then-not-own_passes g c =
    let view = c.args.self.now in
    own_fails view.own.now view.slices.now view.leaders.now view.table.now (kind_asked c.args.question.now) c.args.own_passes (asks c.args.question.now) c.if-not-own_passes.true
