use Rattle.std.proofs.Common.{◌<◌, ◌+◌, ◌/◌, ◌∙◌, ℕ, Bool, subst, sym}
use Rattle.scp_voting.specs.Questions.{asks}
use Rattle.node_view.specs.Watching.{passes_at}
use Rattle.node_view.proofs.AddedPlaces.{AreFirst, first_added, first_passed_over}
use Rattle.node_view.proofs.passing.Supporters.add_each.Goals as goal
use Rattle.node_view.proofs.passing.Supporters.add_each.Goals.{then-passes_at, else-passes_at}

pub loop-place-preserved : goal.loop-place-preserved
loop-place-preserved g c =
    let passes : ℕ → Bool = passes_at c.args.self.now.rows.now c.args.self.now.own_place c.args.self.now.own_passes (asks c.args.self.now.question.now) in
    let loop = c.loop-place in
    let k = loop.place in
    let now = c.if-passes_at in
    let so_far : AreFirst passes k loop.places = (loop.invariant.before, loop.invariant.after) in
    let first : AreFirst passes (k + 1) now.places = elim now.branch [
      | then-passes_at w ↦ subst (AreFirst passes (k + 1)) (sym w.places-is) (first_added passes k loop.places so_far w.add_place.new.places (sym c.passes_at.ensures ∙ w.if-passes_at.true) w.add_place.ensures)
      | else-passes_at w ↦ subst (AreFirst passes (k + 1)) (sym w.places-is) (first_passed_over passes k loop.places so_far (sym c.passes_at.ensures ∙ w.if-passes_at.false))
    ] in
    record {
      before = first.0;
      after = first.1;
      room = λ i within. subst (λ n. i / 64 < n) (sym now.auto.places) (loop.invariant.room i within);
    }
