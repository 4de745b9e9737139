use Rattle.std.proofs.Common.{◌≡◌, ◌<◌, ◌++◌, List, ap, sym, ◌∙◌, arith, length, get_or, slice_set, take, append_assoc}
use Rattle.std.specs.Option.{option_to_list}
use Rattle.std.proofs.lemmas.List.Edits.{map_over_more}
use Rattle.pool_workers.specs.declared.worker.Worker.{Worker}
use Rattle.pool_workers.specs.Sums.{at_rest, passes_of}
use Rattle.pool_cell.proofs.Closing.{seam_read}
use Rattle.pool_workers.proofs.Pools.{passes_more}
use Rattle.pool_workers.proofs.pool.collect.Goals as goal

pub loop-worker-preserved : goal.loop-worker-preserved
loop-worker-preserved g c =
    let i = c.loop-worker.invariant in
    let e = c.leave.ensures in
    let xs : List (Worker _ _ _) = c.args.workers.now in
    let n = c.loop-worker.worker-index in
    let item : (Worker _ _ _) = c.worker-item.result in
    let at : item ≡ get_or c.loop-worker.workers n item = c.worker-item.is in
    let lt : n < length xs = let t = c.loop-worker-test.true in let a = c.loop-worker.auto.workers in omega arith in
    let here : item ≡ get_or xs n item = at ∙ seam_read at_rest xs c.loop-worker.workers n item lt i.0 in
    let now : c.leave.new.worker ≡ at_rest item = e.rest ∙ ap at_rest (sym at) in (
      ap (slice_set c.loop-worker.workers n) now ∙ map_over_more at_rest xs c.loop-worker.workers n item lt i.0 at,
      e.passes ∙ (λ j. i.1 j ++ option_to_list (sym at j).pass) ∙ append_assoc c.args.passes.now.items (passes_of (take n xs)) (option_to_list item.pass) ∙ ap (λ l. c.args.passes.now.items ++ l) (sym (passes_more xs n item lt here)),
      (let r = e.room.0 in let s = i.2 in omega arith),
      e.room.1 ∙ i.3,
    )
