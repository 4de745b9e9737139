use Rattle.std.proofs.Common.{◌+◌, ◌∷◌, [], List, ap, sym, ◌∙◌, subst, arith, length, length-append}
use Rattle.std.proofs.lemmas.List.Elements.{All-push}
use Rattle.pool_workers.specs.Spares.{AllBlank, IsBlank}
use Rattle.pool_workers.specs.declared.deal.Room.{Room}
use Rattle.pool_workers.proofs.deal.make_worker_room.Goals as goal

pub loop-made-preserved : goal.loop-made-preserved
loop-made-preserved g c =
    let i = c.loop-made.invariant in
    let p = c.push_reserved.ensures in
    let w = c.in_ok-with_capacity.ensures in
    let r : (Room _ _ _) = record { seats = c.in_ok-with_capacity.field-0 } in (
      p.len ∙ ap (λ n. n + 1) i.0,
      (let a = p.capacity in let b = i.1 in omega arith),
      (let l = ap (λ (x : List (Room _ _ _)). length x) p.items ∙ length-append c.loop-made.rooms.items (r ∷ []) in let b = i.2 in omega arith),
      subst (AllBlank c.args.cells) (sym p.items) (All-push (IsBlank c.args.cells) c.loop-made.rooms.items r i.3 (w.items, w.capacity)),
    )
