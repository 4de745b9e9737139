use Rattle.std.proofs.Common.{ap, arith}
use Rattle.pool_workers.specs.Sums.{IsSeated}
use Rattle.pool_workers.proofs.Pairs.{zip-at}
use Rattle.pool_workers.proofs.Sums.{busy_set, is_seated, kept_done}
use Rattle.pool_workers.proofs.worker.Worker.apply_at.Goals as goal

pub index_mut-requires : goal.index_mut-requires
index_mut-requires g c = let lt = is_seated _ _ _ _ c.requires.busy in let ok = c.args.self.now.seats.ok.0 in omega arith

pub apply_by-is_applied-requires-clause-seat : goal.apply_by-is_applied-requires-clause-seat
apply_by-is_applied-requires-clause-seat g c = zip-at IsSeated c.args.workplace.now.shared.now.cells.items c.args.self.now.seats.items c.args.k c.index.result.now c.index_mut.result.now c.requires.busy.seated c.requires.busy.there c.index.ensures c.index_mut.ensures.value

pub returns-clause-busy : goal.returns-clause-busy
returns-clause-busy g c =
    busy_set _ _ c.args.k c.args.self.now c.count.new.self c.index.result.now c.apply_by-is_applied.new.seat (ap (λ ws. ws.items) c.count.ensures.same.0) c.count.ensures.same.1 c.index.ensures
    c.apply_by-is_applied.ensures.seat c.requires.busy

pub returns-clause-kept : goal.returns-clause-kept
returns-clause-kept g c =
    kept_done _ c.args.self.now c.count.new.self c.args.job c.args.k c.index_mut.result.now c.apply_by-is_applied.new.seat c.apply_by-is_applied.result (is_seated _ _ _ _ c.requires.busy) c.index_mut.ensures.value
    c.apply_by-is_applied.ensures.done (ap (λ ws. ws.items) c.count.ensures.same.0) c.count.ensures.same.1 c.count.ensures.applied c.count.ensures.refused
