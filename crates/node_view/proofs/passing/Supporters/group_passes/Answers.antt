use Rattle.std.proofs.Common.{◌∙◌}
use Rattle.scp_voting.specs.Questions.{asks}
use Rattle.node_view.proofs.GroupLaws.{same_pass}
use Rattle.node_view.proofs.passing.Supporters.group_passes.Goals as goal

pub returns-in-Some : goal.returns-in-Some
returns-in-Some g c = λ i is.
    let first = c.in-Some.place in
    let there = c.in-Some.ensures.some in
    let group = c.requires in
    c.passes_at.ensures
    ∙ same_pass c.args.self.now.rows.now c.args.self.now.own_place c.args.self.now.own_passes (asks c.args.self.now.question.now) first i (group.something first there) (group.same first i there is)
