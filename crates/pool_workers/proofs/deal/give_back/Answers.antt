use Rattle.std.proofs.Common.{◌≡◌, List, arith, length, subst, sym, ap, ◌∙◌, get_or, slice_set}
use Rattle.pool_cell.specs.Sights.{SeatSight}
use Rattle.pool_workers.specs.declared.deal.SpareSeats.{SpareSeats}
use Rattle.pool_workers.proofs.Deals.{IsGivenFrom, given_from_all, given_from_at, given_from_less, given_from_lt}
use Rattle.pool_workers.proofs.deal.give_back.Goals as goal

pub loop-seat-init : goal.loop-seat-init
loop-seat-init g c = given_from_all c.args.worker.seats.items c.args.spares.now.items c.requires.seats

pub index_mut-requires : goal.index_mut-requires
index_mut-requires g c =
    let vs = c.pop.new.self.items in
    let all = subst (λ (l : List SeatSight). IsGivenFrom l c.args.worker.seats.items c.args.spares.now.items c.loop-seat.spares.items) c.in-Some.ensures.items c.loop-seat.invariant in
    let lt = given_from_lt vs c.args.worker.seats.items c.args.spares.now.items c.loop-seat.spares.items c.in-Some.seat all in
    let ok = c.pop.new.self.ok.0 in
    let ok' = c.loop-seat.spares.ok.0 in
    let k = c.len.ensures in omega arith

pub push_reserved-requires : goal.push_reserved-requires
push_reserved-requires g c =
    let vs = c.pop.new.self.items in
    let all = subst (λ (l : List SeatSight). IsGivenFrom l c.args.worker.seats.items c.args.spares.now.items c.loop-seat.spares.items) c.in-Some.ensures.items c.loop-seat.invariant in
    let n : c.len.result ≡ length vs = let ok = c.pop.new.self.ok.0 in let k = c.len.ensures in omega arith in
    let room = given_from_at vs c.args.worker.seats.items c.args.spares.now.items c.loop-seat.spares.items c.in-Some.seat c.index_mut.result.now all (c.index_mut.ensures.value ∙ ap (λ k. get_or c.loop-seat.spares.items k c.index_mut.result.now) n) c.requires.room in
    let many = c.index_mut.result.now.seats.ok.0 in omega arith

pub loop-seat-preserved : goal.loop-seat-preserved
loop-seat-preserved g c =
    let vs = c.pop.new.self.items in
    let ys = c.loop-seat.spares.items in
    let all = subst (λ (l : List SeatSight). IsGivenFrom l c.args.worker.seats.items c.args.spares.now.items ys) c.in-Some.ensures.items c.loop-seat.invariant in
    let n : c.len.result ≡ length vs = let ok = c.pop.new.self.ok.0 in let k = c.len.ensures in omega arith in
    let given : (SpareSeats _ _ _) = record { seats = c.push_reserved.new.self } in
    let e = c.push_reserved.ensures in
    subst (λ k. IsGivenFrom vs c.args.worker.seats.items c.args.spares.now.items (slice_set ys k given)) (sym n)
    (given_from_less vs c.args.worker.seats.items c.args.spares.now.items ys c.in-Some.seat c.index_mut.result.now given all (c.index_mut.ensures.value ∙ ap (λ k. get_or ys k c.index_mut.result.now) n) (record { seats = e.items; capacity = e.capacity }))
