use Rattle.std.proofs.Common.{ap, arith}
use Rattle.pool_workers.specs.Sums.{IsSeated}
use Rattle.pool_workers.proofs.Pairs.{zip-at}
use Rattle.pool_workers.proofs.Sums.{busy_set, is_seated, kept_done}
use Rattle.pool_workers.proofs.worker.Worker.try_apply_at.Goals as goal

pub index_mut-requires : goal.index_mut-requires
index_mut-requires g c = let lt = is_seated _ _ _ _ c.requires.busy in let ok = c.args.self.now.seats.ok.0 in omega arith

pub try_apply_by-requires-clause-seat : goal.try_apply_by-requires-clause-seat
try_apply_by-requires-clause-seat g c = zip-at IsSeated c.args.workplace.now.shared.now.cells.items c.args.self.now.seats.items c.args.k c.index.result.now c.index_mut.result.now c.requires.busy.seated c.requires.busy.there c.index.ensures c.index_mut.ensures.value

pub returns-in-Ok-clause-busy : goal.returns-in-Ok-clause-busy
returns-in-Ok-clause-busy g c =
    busy_set _ _ c.args.k c.args.self.now c.count.new.self c.index.result.now c.try_apply_by.new.seat (ap (λ ws. ws.items) c.count.ensures.same.0) c.count.ensures.same.1 c.index.ensures
    c.try_apply_by.ensures.seat c.requires.busy

pub returns-in-Ok-clause-kept : goal.returns-in-Ok-clause-kept
returns-in-Ok-clause-kept g c =
    kept_done _ c.args.self.now c.count.new.self c.args.job c.args.k c.index_mut.result.now c.try_apply_by.new.seat c.in-Ok.is_applied (is_seated _ _ _ _ c.requires.busy) c.index_mut.ensures.value
    c.in-Ok.ensures.done (ap (λ ws. ws.items) c.count.ensures.same.0) c.count.ensures.same.1 c.count.ensures.applied c.count.ensures.refused
