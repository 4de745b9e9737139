use Rattle.std.proofs.Common.{ap, ◌∙◌, arith, refl, length, List}
use Rattle.std.proofs.lemmas.List.{length-set}
use Rattle.pool_cell.specs.Sights.{SeatSight}
use Rattle.pool_workers.proofs.Deals.{dealt_to_at, dealt_to_end, dealt_to_more}
use Rattle.pool_workers.proofs.deal.deal_one.Goals as goal

pub loop-k-init : goal.loop-k-init
loop-k-init g c =
    let l = ap (λ (ws : List SeatSight). length ws) c.requires.room.0 in
    let ok = c.args.room.seats.ok.0 in
    ((c.requires.room.0, refl), refl, omega arith, c.requires.room.1)

pub deal_seat-requires-clause-some : goal.deal_seat-requires-clause-some
deal_seat-requires-clause-some g c =
    let i = c.loop-k.invariant in
    let t = c.loop-k-test.true in
    let n = c.len-many.ensures in
    let ok = c.args.spares.now.ok.0 in
    let len = i.1 in
    dealt_to_at c.loop-k.k c.args.spares.now.items c.loop-k.seats.items c.loop-k.spares.items c.index_mut.result.now i.0 (omega arith) c.index_mut.ensures.value c.requires.seats

pub deal_seat-requires-clause-room : goal.deal_seat-requires-clause-room
deal_seat-requires-clause-room g c =
    let i = c.loop-k.invariant in
    let t = c.loop-k-test.true in
    let n = c.len-many.ensures in
    let ok = c.args.spares.now.ok.0 in
    let a = i.2 in let b = i.3 in omega arith

pub loop-k-preserved : goal.loop-k-preserved
loop-k-preserved g c =
    let i = c.loop-k.invariant in
    let t = c.loop-k-test.true in
    let n = c.len-many.ensures in
    let ok = c.args.spares.now.ok.0 in
    let len = i.1 in
    let e = c.deal_seat.ensures in
    let a = i.2 in let b = i.3 in
    let r0 = e.room.0 in let r1 = e.room.1 in (
      dealt_to_more c.loop-k.k c.args.spares.now.items c.loop-k.seats.items c.loop-k.spares.items c.index_mut.result.now c.deal_seat.new.spare e.dealt.0 c.deal_seat.new.seats.items i.0 (omega arith) c.index_mut.ensures.value e.dealt.1 e.dealt.2,
      length-set c.loop-k.spares.items c.loop-k.k c.deal_seat.new.spare ∙ len,
      omega arith,
      omega arith,
    )

pub returns : goal.returns
returns g c =
    let i = c.loop-k.invariant in
    let t = c.loop-k-test.false in
    let n = c.len-many.ensures in
    let ok = c.args.spares.now.ok.0 in
    let len = i.1 in
    dealt_to_end c.loop-k.k c.args.spares.now.items c.loop-k.seats.items c.loop-k.spares.items i.0 (omega arith)
