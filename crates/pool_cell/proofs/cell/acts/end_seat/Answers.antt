use Rattle.std.proofs.Common.{ap, ◌∙◌}
use Rattle.crossbeam_queue.specs.Passes.{view}
use Rattle.pool_cell.specs.Views.{Knowledge}
use Rattle.pool_cell.specs.Rule.{with_note}
use Rattle.pool_cell.proofs.Moves.{agrees, ends, shows}
use Rattle.pool_cell.proofs.cell.acts.end_seat.Goals as goal

pub another-note-requires-clause-rule : goal.another-note-requires-clause-rule
another-note-requires-clause-rule g c = let f = c.seat.invariant.free in ends _ _ f.live f.claims f.holding f.opens f.known

pub absorb-requires-clause-rule : goal.absorb-requires-clause-rule
absorb-requires-clause-rule g c =
    let r = c.requires.keeper in
    shows _ _ _ _ r.2 r.1 r.3 (ap (λ (v : Knowledge). v.claims) c.another-note.ensures.rule.1)

pub learn_as-requires-clause-rule : goal.learn_as-requires-clause-rule
learn_as-requires-clause-rule g c =
    let is = c.absorb.ensures.rule in
    let r = c.requires.keeper in
    agrees _ _ (ap (λ (v : Knowledge). v.known) is ∙ r.2) (ap (λ (v : Knowledge). v.holding) is ∙ r.0) (ap (λ (v : Knowledge). v.claims) (is ∙ ap (with_note (view c.args.keeper.now)) c.another-note.ensures.rule.1))
