use Rattle.std.proofs.Common.{◌+◌, ◌∙◌, ℕ, Bool, length, sym, subst}
use Rattle.scp_voting.specs.Questions.{asks}
use Rattle.node_view.specs.Watching.{passes_at}
use Rattle.node_view.proofs.GroupLaws.{HasFirst, all_with_itself, all_without_itself, group_added, group_passed_over}
use Rattle.node_view.proofs.passing.Supporters.add_groups.Goals as goal
use Rattle.node_view.proofs.passing.Supporters.add_groups.Goals.{then-group_passes, else-group_passes}

pub loop-group-preserved : goal.loop-group-preserved
loop-group-preserved g c =
    let passes : ℕ → Bool = passes_at c.args.self.now.rows.now c.args.self.now.own_place c.args.self.now.own_passes (asks c.args.self.now.question.now) in
    let count = length c.args.self.now.rows.now.nodes in
    let groups = c.args.groups.now in
    let loop = c.loop-group in
    let n = loop.group-index in
    elim c.if-group_passes.branch [
      | then-group_passes w ↦ subst (HasFirst passes count (n + 1) groups) (sym w.places-is) (group_added passes count n groups loop.places loop.invariant w.join_places.new.places w.join_places.ensures (λ i is. sym (c.group_passes.ensures i is) ∙ w.if-group_passes.true))
      | else-group_passes w ↦ subst (HasFirst passes count (n + 1) groups) (sym w.places-is) (group_passed_over passes count n groups loop.places loop.invariant (λ i is. sym (c.group_passes.ensures i is) ∙ w.if-group_passes.false))
    ]

pub returns-then-self : goal.returns-then-self
returns-then-self g c =
    let loop = c.loop-group in
    all_with_itself c.args.self.now.rows.now c.args.self.now.own_place c.args.self.now.own_passes (asks c.args.self.now.question.now) c.args.self.now.ascending c.args.self.now.listed c.args.groups.now c.requires.groups loop.group-index c.loop-group-test.false loop.places loop.invariant c.add_place.new.places c.if-self.true c.add_place.ensures

pub returns-else-self : goal.returns-else-self
returns-else-self g c =
    let loop = c.loop-group in
    all_without_itself c.args.self.now.rows.now c.args.self.now.own_place c.args.self.now.own_passes (asks c.args.self.now.question.now) c.args.self.now.ascending c.args.self.now.listed c.args.groups.now c.requires.groups loop.group-index c.loop-group-test.false loop.places loop.invariant c.if-self.false
