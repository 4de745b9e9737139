use Rattle.std.proofs.Common.{◌≡◌, ap, ◌∙◌, sym, subst, refl, rules, arith, ℕ, ◌<◌, length, List, map}
use Rattle.std.proofs.lemmas.List.{length-map}
use Rattle.std.proofs.lemmas.Option.{slice_get_within}
use Rattle.host_journal.specs.Logs.{Log}
use Rattle.pool_cell.specs.Closing.{AllSeats, ended_sight, Gathered, IsOneHistory, HasNumber}
use Rattle.pool_cell.specs.Sights.{CellSight, SeatSight}
use Rattle.pool_cell.proofs.Closing.{one_history, has_ended, written_back}
use Rattle.pool_cell.proofs.cell.Cell.close_watched.Goals as goal

pub returns-then-not-has_all-clause-missing : goal.returns-then-not-has_all-clause-missing
returns-then-not-has_all-clause-missing g c =
    subst (λ (y : ℕ × List SeatSight). (k : ℕ) × (k < y.0) × (HasNumber y.1 k → ⊥)) (λ i. (ap (λ (x : CellSight). x.seats) c.self.view_is i, c.as_slice.ensures.value i)) (c.if-not-has_all.ensures.missing refl)

pub gather-cell_state-requires-clause-some : goal.gather-cell_state-requires-clause-some
gather-cell_state-requires-clause-some g c =
    let there = c.if-not-has_all.ensures.all refl 0 c.self.invariant.1 in
    let lt = slice_get_within c.as_slice.result.now there.0 there.1 there.2 in
    let same = ap length (c.as_mut_slice.ensures.value ∙ sym c.as_slice.ensures.value) in
    omega arith

pub gather-cell_state-requires-clause-seats : goal.gather-cell_state-requires-clause-seats
gather-cell_state-requires-clause-seats g c =
    let P : CellSight → SeatSight → Type 0 = λ x s. (s.cell ≡ x.cell) × (s.me.config ≡ x.config) × (s.me.seats ≡ x.seats) in
    subst (λ (y : CellSight × List SeatSight). AllSeats (P y.0) y.1) (λ i. (sym c.self.view_is i, sym c.as_mut_slice.ensures.value i)) (λ k d lt. let h = c.requires k d lt in (h.cell, h.config, h.seats))

pub returns-clause-history : goal.returns-clause-history
returns-clause-history g c =
    let e = c.gather-cell_state.ensures in
    let old : List SeatSight = c.args.seats.items in
    let new : List SeatSight = c.gather-cell_state.new.seats in
    let is : new ≡ map ended_sight old = e.ended ∙ ap (map ended_sight) c.as_mut_slice.ensures.value in
    let len : length new ≡ length old = ap length is ∙ length-map old ended_sight in
    let back = written_back c.args.seats.len new old len (search rules) in
    let count : c.self.inside.seats ≡ c.args.self.seats = ap (λ (x : CellSight). x.seats) c.self.view_is in
    let here : (k : ℕ) → k < c.args.self.seats → HasNumber new k = λ k lt. subst (λ (l : List SeatSight). HasNumber l k) (sym is) (has_ended old k (subst (λ (l : List SeatSight). HasNumber l k) c.as_slice.ensures.value (c.if-not-has_all.ensures.all refl k (subst (λ (n : ℕ). k < n) (sym count) lt)))) in
    let gathered : Gathered c.args.self.config c.args.self.seats c.gather-cell_state.result new = subst (λ (x : CellSight). Gathered x.config x.seats c.gather-cell_state.result new) c.self.view_is e.gathered in
    subst (λ (y : Log × List SeatSight). IsOneHistory c.args.self.seats y.0 y.1) (λ i. (sym c.into_parts-journal.ensures.log i, sym back i)) (one_history c.args.self.config c.args.self.seats c.gather-cell_state.result new gathered here)
