use Rattle.std.proofs.Common.{◌≡◌, ap, ◌∙◌, sym, subst, arith, ◌<◌, ◌≤◌, length, List, get_or, set}
use Rattle.std.proofs.lemmas.List.{set-get_or}
use Rattle.crossbeam_queue.specs.Passes.{view}
use Rattle.pool_cell.specs.Sights.{SeatSight}
use Rattle.pool_cell.specs.Views.{Knowledge}
use Rattle.pool_cell.specs.Rule.{note_of}
use Rattle.pool_cell.specs.Closing.{ended_sight}
use Rattle.pool_cell.proofs.Closing.{keeps_shown, one_more_seat, gathered, seam_read}
use Rattle.pool_cell.proofs.cell.acts.gather.Goals as goal

pub loop-seat-preserved : goal.loop-seat-preserved
loop-seat-preserved g c =
    let i = c.loop-seat.invariant in
    let e = c.end_seat.ensures in
    let old : List SeatSight = c.args.seats.now in
    let n = c.loop-seat.seat-index in
    let item : SeatSight = c.seat-item.result in
    let at : item ≡ get_or c.loop-seat.seats n item = c.seat-item.is in
    let now : c.end_seat.new.seat ≡ ended_sight item = e.seat ∙ ap ended_sight (sym at) in
    let xs : List SeatSight = set old 0 c.closer_from-keeper.new.seat in
    let same : xs ≡ old = ap (set old 0) c.closer_from-keeper.ensures.same ∙ set-get_or old 0 c.index-seats-0.result in
    let lt : n < length xs = let t = c.loop-seat-test.true in let a = c.loop-seat.auto.seats in omega arith in
    let lt' : n < length old = subst (λ (l : List SeatSight). n < length l) same lt in
    let first = c.requires.seats 0 c.index-seats-0.result c.requires.some in
    let mine = c.requires.seats n item lt' in
    let here : item ≡ get_or old n item = at ∙ seam_read ended_sight xs c.loop-seat.seats n item lt i.2 ∙ ap (λ (l : List SeatSight). get_or l n item) same in
    let base : (view c.take-cell_state.new.pass).config ≡ c.args.config.now = ap (λ (v : Knowledge). v.config) c.take-cell_state.ensures.rule.now ∙ ap (λ (v : Knowledge). v.config) c.closer_from-keeper.ensures.pass.1 ∙ first.1 in
    let config : item.me.config ≡ (view c.take-cell_state.new.pass).config = ap (λ (s : SeatSight). s.me.config) here ∙ mine.1 ∙ sym base in
    let rest = one_more_seat (view c.take-cell_state.new.pass) (view c.loop-seat.keeper) (view c.end_seat.new.keeper) xs c.loop-seat.seats n item c.end_seat.new.seat lt i.2 at now i.1 e.end_known e.sound config i.3 in
    ((e.queue.0 ∙ i.0.0, e.queue.2 ∙ i.0.1), keeps_shown (view c.take-cell_state.new.pass) (view c.loop-seat.keeper) (view c.end_seat.new.keeper) (note_of (get_or c.loop-seat.seats n item).me) i.1 e.keeper, rest.0, rest.1)

pub returns-clause-gathered : goal.returns-clause-gathered
returns-clause-gathered g c =
    let i = c.loop-seat.invariant in
    let closer = c.closer_from-keeper.ensures.pass.1 in
    let first = c.requires.seats 0 c.index-seats-0.result c.requires.some in
    let xs : List SeatSight = set c.args.seats.now 0 c.closer_from-keeper.new.seat in
    let all : length xs ≤ c.loop-seat.seat-index = let t = c.loop-seat-test.false in let a = c.loop-seat.auto.seats in omega arith in
    gathered c.args.config.now c.args.count c.take-cell_state.result (view c.closer_from-keeper.result) (view c.take-cell_state.new.pass) xs c.loop-seat.seats c.loop-seat.seat-index c.take-cell_state.ensures.rule
    (ap (λ (v : Knowledge). v.config) closer ∙ first.1) (ap (λ (v : Knowledge). v.seats) closer ∙ first.2) i.2 all i.3

pub end_seat-requires-clause-seat : goal.end_seat-requires-clause-seat
end_seat-requires-clause-seat g c =
    let i = c.loop-seat.invariant in
    let old : List SeatSight = c.args.seats.now in
    let n = c.loop-seat.seat-index in
    let item : SeatSight = c.seat-item.result in
    let xs : List SeatSight = set old 0 c.closer_from-keeper.new.seat in
    let same : xs ≡ old = ap (set old 0) c.closer_from-keeper.ensures.same ∙ set-get_or old 0 c.index-seats-0.result in
    let lt : n < length xs = let t = c.loop-seat-test.true in let a = c.loop-seat.auto.seats in omega arith in
    let lt' : n < length old = subst (λ (l : List SeatSight). n < length l) same lt in
    let mine = c.requires.seats n item lt' in
    ap (λ (s : SeatSight). s.cell) (seam_read ended_sight xs c.loop-seat.seats n item lt i.2 ∙ ap (λ (l : List SeatSight). get_or l n item) same) ∙ mine.0
