use Rattle.pool_cell.proofs.Seats.{fresh_seats, seat_fresh, seats_more}
use Rattle.pool_cell.proofs.Moves.{begins, opens, sits}
use Rattle.std.proofs.Common.{ap, ◌∙◌, sym, subst, refl, arith, ℕ, ◌≡◌, ◌+◌, suc, List, rules}
use Rattle.crossbeam_queue.specs.Fifo.{Forks, Pushes}
use Rattle.crossbeam_queue.specs.Passes.{view}
use Rattle.pool_cell.specs.Receipts.{AppliedEvent}
use Rattle.pool_cell.specs.Rule.{Holds, seat_of, one_more, after_opening}
use Rattle.pool_cell.specs.Views.{CellStateSight, Knowledge}
use Rattle.pool_cell.specs.Sights.{sight_of}
use Rattle.pool_cell.specs.Sounds.{IsSeat}
use Rattle.pool_cell.specs.Cells.{AllFresh}
use Rattle.pool_cell.proofs.cell.Cell.open_with.Goals as goal

pub ruled-requires-clause-rule : goal.ruled-requires-clause-rule
ruled-requires-clause-rule g c = begins

pub give-requires-clause-rule : goal.give-requires-clause-rule
give-requires-clause-rule g c =
    let q = c.in_ok-lock.opener in
    subst (λ (x : CellStateSight). Pushes Holds 1 q.id (view q) x (λ w. w ≡ after_opening x.log.config x.seats)) (sym c.new-cell_state.ensures)
    (opens _ _ _ _ (ap (λ (v : Knowledge). v.opening) c.in_ok-lock.ensures.3))

pub another-pass-requires-clause-rule : goal.another-pass-requires-clause-rule
another-pass-requires-clause-rule g c =
    subst (λ (v : Knowledge). Forks Holds c.loop-number.opener.id v (one_more v) (seat_of v)) (sym c.loop-number.invariant.1) (sits _ _ refl refl refl refl refl c.loop-number-test.true)

pub invariant_of-push_reserved : goal.invariant_of-push_reserved
invariant_of-push_reserved g c =
    let s = seat_fresh c.another-pass.result c.args.config c.args.seats c.loop-number.number c.another-pass.ensures.queue.1.1 (c.another-pass.ensures.rule.1 ∙ ap seat_of c.loop-number.invariant.1) in
    subst (λ (l : List AppliedEvent). IsSeat c.another-pass.result c.loop-number.number l) (sym c.new.ensures.items) s

pub loop-number-preserved : goal.loop-number-preserved
loop-number-preserved g c =
    let i = c.loop-number.invariant in
    let q = c.another-pass.ensures.queue in
    let v = c.another-pass.ensures.rule in
    let n = c.loop-number.number in
    let one : suc n ≡ n + 1 = omega arith in (
      (q.0.0 ∙ i.0.0, q.0.2 ∙ i.0.1),
      v.0 ∙ ap one_more i.1 ∙ ap (λ (k : ℕ). record (after_opening c.args.config c.args.seats) { made = k }) one,
      c.push_reserved.ensures.len ∙ ap (λ (k : ℕ). k + 1) i.2,
      search rules,
      search rules,
      subst (AllFresh c.in_ok-lock.lock.table.shared.table_id c.args.config c.args.seats) (sym c.push_reserved.ensures.items)
          (seats_more _ c.args.config c.args.seats c.loop-number.all.items n (sight_of c.another-pass.result c.new.result.items) i.3 q.1.0 (v.1 ∙ ap seat_of i.1) i.5),
    )

pub returns-clause-theirs : goal.returns-clause-theirs
returns-clause-theirs g c = fresh_seats _ _ _ _ _ (search rules) c.loop-number.invariant.5
