use Rattle.std.proofs.Common.{List, refl, sym, subst, ap, ◌∙◌, arith, length}
use Rattle.std.proofs.lemmas.Slice.Zip.{AllZip-long}
use Rattle.pool_workers.specs.NetSights.{NetSight}
use Rattle.pool_workers.specs.Spares.{HaveSpareSeats}
use Rattle.pool_workers.specs.declared.deal.SpareSeats.{SpareSeats}
use Rattle.pool_workers.proofs.Nets.{done_after, host_state_after, grown_after, nets_len}
use Rattle.pool_workers.proofs.Worked.{hosted_have}
use Rattle.pool_workers.proofs.running.run.Goals as goal

pub into_room-worker_room-requires-clause-seats : goal.into_room-worker_room-requires-clause-seats
into_room-worker_room-requires-clause-seats g c =
    subst (HaveSpareSeats 1) (sym c.as_slice.ensures.value) (hosted_have c.turn_to.new.self.shared.cells.items c.turn_to.new.self.spares.items c.turn_to.ensures.kept.hosted)

pub into_room-worker_room-requires-clause-room : goal.into_room-worker_room-requires-clause-room
into_room-worker_room-requires-clause-room g c =
    let f = c.turn_to.new.self in
    let s = ap (λ (l : List (SpareSeats _ _ _)). length l) c.as_slice.ensures.value in
    let n = nets_len f.shared.cells.items f.spares.items c.turn_to.ensures.kept.hosted in
    let h = AllZip-long _ f.shared.cells.items f.spares.items c.turn_to.ensures.kept.hosted in
    let v = ap (λ (l : List NetSight). length l) (c.turn_to.ensures.nets ∙ c.host.view_is) in
    let r = c.requires.room in omega arith

pub run_workers-requires-clause-there : goal.run_workers-requires-clause-there
run_workers-requires-clause-there g c κs within = (c.args.queue.0, refl)

pub invariant_of-host : goal.invariant_of-host
invariant_of-host g c =
    let e = c.run_workers.ensures in
    host_state_after c.turn_to.new.self c.run_workers.new.host_state c.turn_to.ensures.kept e.shared.0 e.shared.1 e.shared.2 e.grown

pub returns-clause-same : goal.returns-clause-same
returns-clause-same g c =
    let e = c.run_workers.ensures in
    grown_after c.turn_to.new.self c.run_workers.new.host_state c.args.host.now c.turn_to.ensures.kept (c.turn_to.ensures.nets ∙ c.host.view_is) e.shared.1 e.grown

pub returns-clause-done : goal.returns-clause-done
returns-clause-done g c =
    let e = c.run_workers.ensures in
    done_after c.turn_to.new.self c.run_workers.new.host_state c.args.host.now _ _ c.run_workers.result c.turn_to.ensures.kept (c.turn_to.ensures.nets ∙ c.host.view_is) e.shared.1 e.grown e.worked
