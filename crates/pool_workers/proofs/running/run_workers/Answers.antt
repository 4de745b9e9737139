use Rattle.std.proofs.Common.{◌≡◌, ◌+◌, [], ℕ, List, refl, sym, ap, ◌∙◌, subst, arith}
use Rattle.pool_queue.specs.Hands.{all_parts, weigh}
use Rattle.pool_queue.specs.Queues.{parts_by}
use Rattle.pool_cell.specs.Sights.{SeatSight}
use Rattle.pool_cell.specs.Views.{Knowledge}
use Rattle.pool_workers.specs.declared.worker.Worker.{Worker}
use Rattle.pool_workers.specs.Spares.{IsCounted, IsDealtAll, at_work, on_spares}
use Rattle.pool_workers.specs.Sums.{AllLaterWorkers, AllReady, AreSumsClosed, parts_of}
use Rattle.pool_workers.proofs.Deals.{dealt_all_last, given_sum}
use Rattle.pool_workers.proofs.Pairs.{zip-last}
use Rattle.pool_workers.proofs.Sums.{weigh-last}
use Rattle.pool_workers.proofs.Worked.{all_given, dealt_ready, empty, given_grown, given_many, grown_spares_none, grown_roomy, worked, written_back}
use Rattle.pool_workers.proofs.running.run_workers.Goals as goal

pub work_through-requires-clause-queue : goal.work_through-requires-clause-queue
work_through-requires-clause-queue g c κs within =
    let split = c.deal-workers.ensures.passes in (
      (split.passing c.args.host_state.now.shared.queue c.requires.queue.0).0,
      subst (λ (l : List (Worker _ _ _)). parts_by c.deal-workers.new.passes.items + weigh parts_of l ≡ all_parts) (sym c.as_mut_slice.ensures.value) (sym split.parts_all ∙ c.requires.queue.1),
    )

pub work_through-requires-clause-ready : goal.work_through-requires-clause-ready
work_through-requires-clause-ready g c κs within =
    let q = c.args.host_state.now.shared.queue in
    let cs = c.args.host_state.now.shared.cells.items in
    let hold = (c.deal-workers.ensures.passes.passing q c.requires.queue.0).1 in
    subst (AllReady cs q) (sym c.as_mut_slice.ensures.value) (dealt_ready cs q c.args.host_state.now.spares.items c.deal-workers.result.items c.deal-workers.new.spares.items c.requires.hosted hold c.deal-workers.ensures.dealt)

pub loop-worker-init : goal.loop-worker-init
loop-worker-init g c =
    let xs = c.deal-workers.result.items in
    let ys = c.work_through.new.workers in
    let later = subst (λ (l : List (Worker _ _ _)). AllLaterWorkers l ys) c.as_mut_slice.ensures.value c.work_through.ensures.closed.later in
    let back = written_back c.deal-workers.result.len xs ys later c.deal-workers.result.ok.0 in (
      refl,
      (λ f. refl),
      (xs, c.deal-workers.new.spares.items, c.deal-workers.ensures.dealt, subst (AllLaterWorkers xs) (sym back) later, grown_spares_none c.deal-workers.new.spares.items),
    )

pub give_back-requires-clause-room : goal.give_back-requires-clause-room
give_back-requires-clause-room g c =
    let i = c.loop-worker.invariant.2 in
    let l = zip-last _ i.0 c.pop.new.self.items c.in-Some.worker (subst (AllLaterWorkers i.0) c.in-Some.ensures.items i.3) in
    let d = dealt_all_last c.args.host_state.now.spares.items l.0 l.1 i.1 (subst (λ (v : List (Worker _ _ _)). IsDealtAll c.args.host_state.now.spares.items v i.1) l.2 i.2) in
    grown_roomy d.0 l.1.seats.items i.1 c.loop-worker.host_state.spares.items d.2 i.4

pub give_back-requires-clause-seats : goal.give_back-requires-clause-seats
give_back-requires-clause-seats g c =
    let i = c.loop-worker.invariant.2 in
    let l = zip-last _ i.0 c.pop.new.self.items c.in-Some.worker (subst (AllLaterWorkers i.0) c.in-Some.ensures.items i.3) in
    let d = dealt_all_last c.args.host_state.now.spares.items l.0 l.1 i.1 (subst (λ (v : List (Worker _ _ _)). IsDealtAll c.args.host_state.now.spares.items v i.1) l.2 i.2) in
    given_many d.0 l.1.seats.items i.1 c.loop-worker.host_state.spares.items c.in-Some.worker.seats.items d.2 i.4 l.4

pub loop-worker-preserved : goal.loop-worker-preserved
loop-worker-preserved g c =
    let i = c.loop-worker.invariant.2 in
    let cur = c.loop-worker.host_state.spares.items in
    let z : (Worker _ _ _) = c.in-Some.worker in
    let l = zip-last _ i.0 c.pop.new.self.items z (subst (AllLaterWorkers i.0) c.in-Some.ensures.items i.3) in
    let d = dealt_all_last c.args.host_state.now.spares.items l.0 l.1 i.1 (subst (λ (v : List (Worker _ _ _)). IsDealtAll c.args.host_state.now.spares.items v i.1) l.2 i.2) in (
      c.loop-worker.invariant.0,
      (λ (f : Knowledge → ℕ).
          let a = given_sum f cur z.seats.items c.give_back.new.spares.items c.give_back.ensures in
          let b = weigh-last (λ (w : (Worker _ _ _)). weigh (λ (v : SeatSight). f v.me) w.seats.items) c.loop-worker.workers.items c.pop.new.self.items z c.in-Some.ensures.items in
          let s = c.loop-worker.invariant.1 f in omega arith),
      (l.0, d.0, d.1, l.3, given_grown d.0 l.1.seats.items i.1 z.seats.items cur c.give_back.new.spares.items d.2 i.4 l.4 c.give_back.ensures),
    )

pub returns-clause-grown : goal.returns-clause-grown
returns-clause-grown g c =
    let i = c.loop-worker.invariant.2 in
    let none : c.loop-worker.workers.items ≡ [] = empty c.loop-worker.workers.items (let ok = c.loop-worker.workers.ok.0 in let m = c.in_default.ensures.cases.0 in omega arith) in
    all_given c.args.host_state.now.spares.items i.0 i.1 c.loop-worker.host_state.spares.items c.loop-worker.workers.items i.2 i.3 none i.4

pub returns-clause-worked : goal.returns-clause-worked
returns-clause-worked g c =
    let q = c.args.host_state.now.shared.queue in
    let cs = c.args.host_state.now.shared.cells.items in
    let xs = c.deal-workers.result.items in
    let ys = c.work_through.new.workers in
    let mid = c.deal-workers.new.spares.items in
    let cur = c.loop-worker.host_state.spares.items in
    let closed : AreSumsClosed cs c.deal-workers.new.passes.items xs ys = subst (λ (l : List (Worker _ _ _)). AreSumsClosed cs c.deal-workers.new.passes.items l ys) c.as_mut_slice.ensures.value c.work_through.ensures.closed in
    let back = written_back c.deal-workers.result.len xs ys closed.later c.deal-workers.result.ok.0 in
    let none : c.loop-worker.workers.items ≡ [] = empty c.loop-worker.workers.items (let ok = c.loop-worker.workers.ok.0 in let m = c.in_default.ensures.cases.0 in omega arith) in
    let hold = (c.deal-workers.ensures.passes.passing q c.requires.queue.0).1 in
    let given : (f : Knowledge → ℕ) → on_spares f cur ≡ on_spares f mid + at_work f ys = λ f.
    (let s = c.loop-worker.invariant.1 f in
    let a : at_work f c.loop-worker.workers.items ≡ 0 = ap (at_work f) none in
    let b = ap (at_work f) back in omega arith) in
    worked cs q c.args.host_state.now.spares.items mid cur xs ys c.args.passes.items c.deal-workers.new.passes.items c.report_of-report.result
    c.deal-workers.ensures.dealt given c.deal-workers.ensures.fresh.0 c.deal-workers.ensures.passes
    (dealt_ready cs q c.args.host_state.now.spares.items xs mid c.requires.hosted hold c.deal-workers.ensures.dealt) c.work_through.ensures.ready closed
    (subst (λ (l : List (Worker _ _ _)). IsCounted l c.report_of-report.result) (c.as_slice.ensures.value ∙ back) c.report_of-report.ensures)
