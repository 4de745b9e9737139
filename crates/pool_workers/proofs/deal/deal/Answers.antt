use Rattle.std.proofs.Common.{◌≡◌, ◌∷◌, [], List, arith, length, length-append, subst, sym, ap, refl, ◌∙◌, suc, Some, vec_len}
use Rattle.std.proofs.lemmas.List.Elements.{All-pop, All-push}
use Rattle.pool_workers.specs.Spares.{HaveSpareSeats, IsBlank, IsDealtAll, IsSplit, NoneHasCounted}
use Rattle.pool_workers.specs.declared.deal.Room.{Room}
use Rattle.pool_workers.specs.declared.worker.Worker.{Worker}
use Rattle.pool_workers.proofs.Deals.{dealt_all_snoc, dealt_have, dealt_len, have_less, one_left, split_more}
use Rattle.pool_workers.proofs.deal.deal.Goals as goal

pub deal_one-requires-clause-seats : goal.deal_one-requires-clause-seats
deal_one-requires-clause-seats g c =
    let i = c.loop-room.invariant in
    let b = ap (λ (x : List (Room _ _ _)). length x) c.in-Some.ensures.items ∙ length-append c.pop.new.self.items (c.in-Some.room ∷ []) in
    have_less 1 (length c.loop-room.rooms.items) c.loop-room.spares.items (omega arith) i.7

pub deal_one-requires-clause-room : goal.deal_one-requires-clause-room
deal_one-requires-clause-room g c =
    let i = c.loop-room.invariant in
    let m = length c.args.spares.now.items in
    let b = (All-pop (IsBlank m) c.loop-room.rooms.items c.pop.new.self.items (Some c.in-Some.room) c.in-Some.ensures.items i.6).1 in
    let r = b.1 in
    let e = i.8 in
    (b.0, omega arith)

pub loop-room-preserved : goal.loop-room-preserved
loop-room-preserved g c =
    let i = c.loop-room.invariant in
    let m = length c.args.spares.now.items in
    let w : (Worker _ _ _) = record { seats = c.deal_one.result; pass = c.pop-in-Some.result; applied = 0; refused = 0 } in
    let e = c.push_reserved.ensures in
    let was = c.loop-room.workers.items in
    let many = ap (λ (x : List (Worker _ _ _)). length x) e.items ∙ length-append was (w ∷ []) in
    let rooms = ap (λ (x : List (Room _ _ _)). length x) c.in-Some.ensures.items ∙ length-append c.pop.new.self.items (c.in-Some.room ∷ []) in
    let more : length c.loop-room.rooms.items ≡ suc (length c.pop.new.self.items) = omega arith in
    let sum = i.2 in
    let enough = c.requires.passes in
    let left = i.4 in
    let one = one_left c.pop-in-Some.result (vec_len c.pop-in-Some.new.self) (vec_len c.loop-room.passes) c.pop-in-Some.ensures.cases (omega arith) in
    let cap = e.capacity in
    let room = i.9 in (
      subst (λ l. IsDealtAll c.args.spares.now.items l c.deal_one.new.spares.items) (sym e.items) (dealt_all_snoc c.args.spares.now.items was c.loop-room.spares.items w c.deal_one.new.spares.items i.0 c.deal_one.ensures),
      subst NoneHasCounted (sym e.items) (All-push (λ (v : Worker _ _ _). (v.applied ≡ 0) × (v.refused ≡ 0)) was w i.1 (refl, refl)),
      omega arith,
      subst (λ l. IsSplit c.args.passes.now.items l c.pop-in-Some.new.self.items) (sym e.items) (split_more c.args.passes.now.items was w c.loop-room.passes.items c.pop-in-Some.new.self.items i.3 c.pop-in-Some.ensures.items),
      omega arith,
      c.pop-in-Some.ensures.capacity ∙ i.5,
      (All-pop (IsBlank m) c.loop-room.rooms.items c.pop.new.self.items (Some c.in-Some.room) c.in-Some.ensures.items i.6).0,
      dealt_have (length c.pop.new.self.items) c.loop-room.spares.items c.deal_one.result.items c.deal_one.new.spares.items c.deal_one.ensures (subst (λ k. HaveSpareSeats k c.loop-room.spares.items) more i.7),
      (dealt_len c.loop-room.spares.items c.deal_one.result.items c.deal_one.new.spares.items c.deal_one.ensures).0 ∙ i.8,
      omega arith,
    )
