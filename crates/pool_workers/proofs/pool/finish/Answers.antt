use Rattle.std.proofs.Common.{None, subst, sym, ◌∙◌, get_or}
use Rattle.std.proofs.lemmas.List.Elements.{All-set}
use Rattle.pool_workers.specs.Sums.{AllReady, IsPassing, IsReadyWorker}
use Rattle.pool_workers.proofs.Pools.{all_pass, closed_by, parts_all, rest_first, rest_ready}
use Rattle.pool_workers.proofs.pool.finish.Goals as goal

pub close-left-requires-clause-all : goal.close-left-requires-clause-all
close-left-requires-clause-all g c = parts_all c.args.passes.items c.collect.new.passes.items c.args.workers.now c.collect.ensures.passes c.requires.queue.1

pub close-left-requires-clause-passes : goal.close-left-requires-clause-passes
close-left-requires-clause-passes g c =
    all_pass c.args.shared.now.cells.items c.args.shared.now.queue c.in-Some.queue c.args.passes.items c.collect.new.passes.items c.args.workers.now
    (sym c.take.ensures.value ∙ c.in-Some.is) c.collect.ensures.passes c.requires.queue.0 c.requires.ready

pub serve_all-requires-clause-ready : goal.serve_all-requires-clause-ready
serve_all-requires-clause-ready g c =
    subst (λ q. IsReadyWorker c.args.shared.now.cells.items q (get_or c.collect.new.workers 0 c.index-workers-0.result)) (sym c.take.ensures.after)
    (rest_first c.args.shared.now.cells.items c.args.shared.now.queue c.args.workers.now c.collect.new.workers c.index-workers-0.result c.requires.some c.collect.ensures.rest c.requires.ready)

pub returns-clause-ready : goal.returns-clause-ready
returns-clause-ready g c =
    let cs = c.args.shared.now.cells.items in
    All-set (IsReadyWorker cs None) c.collect.new.workers 0 c.serve_all.new.self (subst (λ q. IsReadyWorker cs q c.serve_all.new.self) c.take.ensures.after c.serve_all.ensures.ready)
    (subst (AllReady cs None) (sym c.collect.ensures.rest) (rest_ready cs c.args.shared.now.queue c.args.workers.now c.requires.ready))

pub returns-clause-closed : goal.returns-clause-closed
returns-clause-closed g c =
    closed_by c.args.shared.now.cells.items c.args.workers.now c.collect.new.workers c.args.passes.items c.collect.new.passes.items c.index-workers-0.result c.serve_all.new.self c.close-left.result.items
    c.requires.some c.collect.ensures.rest c.collect.ensures.passes c.close-left.ensures
    (subst (λ q. IsPassing q c.serve_all.new.self.pass) c.take.ensures.after c.serve_all.ensures.ready.passing) c.serve_all.ensures.kept
