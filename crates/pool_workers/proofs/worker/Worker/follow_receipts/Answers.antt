use Rattle.std.proofs.Common.{[], arith, refl}
use Rattle.pool_workers.specs.Sums.{IsSeated}
use Rattle.pool_workers.proofs.Pairs.{zip-at}
use Rattle.pool_workers.proofs.Sums.{busy_set, cell_at, is_seated, kept_both, kept_followed, kept_none, kept_same, none_left, same_worker, seated_less}
use Rattle.pool_workers.proofs.worker.Worker.follow_receipts.Goals as goal

pub loop-init : goal.loop-init
loop-init g c = (c.requires, kept_none _ _)

pub index_mut-requires : goal.index_mut-requires
index_mut-requires g c = let lt = is_seated _ _ _ _ c.loop.invariant.0 in let ok = c.loop.self.seats.ok.0 in omega arith

pub follow_receipt-requires : goal.follow_receipt-requires
follow_receipt-requires g c =
    let i = c.loop.invariant.0 in
    let cs = c.args.workplace.now.shared.now.cells.items in
    let d = cell_at cs c.args.k c.requires.there in
    let s = c.index_mut.result.now in
    let seated = zip-at IsSeated cs c.loop.self.seats.items c.args.k d.0 s i.seated i.there d.1 c.index_mut.ensures.value in
    busy_set cs _ c.args.k c.loop.self _ d.0 c.take_receipt.new.self refl refl d.1
    (seated_less d.0 s c.take_receipt.new.self c.in-Some-take_receipt.receipt seated c.in-Some-take_receipt.ensures.some c.in-Some-take_receipt.ensures.one) i

pub loop-preserved : goal.loop-preserved
loop-preserved g c =
    let i = c.loop.invariant in
    let cs = c.args.workplace.now.shared.now.cells.items in
    let d = cell_at cs c.args.k c.requires.there in
    let s = c.index_mut.result.now in
    let r = c.in-Some-take_receipt.receipt in
    let seated = zip-at IsSeated cs c.loop.self.seats.items c.args.k d.0 s i.0.seated i.0.there d.1 c.index_mut.ensures.value in (
      c.follow_receipt.ensures.busy,
      kept_both cs [] [] _ c.loop.self _ i.1
          (kept_followed cs c.loop.self _ _ c.args.k s c.take_receipt.new.self d.0.config r (is_seated _ _ _ _ i.0) c.index_mut.ensures.value seated.0.config
          c.in-Some-take_receipt.ensures.some c.in-Some-take_receipt.ensures.one refl refl refl refl (c.follow_receipt.ensures.kept d.0 d.1)),
    )

pub returns-in-None-take_receipt-clause-ready : goal.returns-in-None-take_receipt-clause-ready
returns-in-None-take_receipt-clause-ready g c =
    let i = c.loop.invariant.0 in
    let at = c.index_mut.ensures.value in
    let none = c.in-None-take_receipt.ensures.none in
    none_left _ _ c.args.k c.loop.self _ c.index_mut.result.now i
    (same_worker c.loop.self _ c.args.k c.index_mut.result.now c.take_receipt.new.self (is_seated _ _ _ _ i) at none.1 refl refl refl refl) at none.0

pub returns-in-None-take_receipt-clause-kept : goal.returns-in-None-take_receipt-clause-kept
returns-in-None-take_receipt-clause-kept g c =
    let i = c.loop.invariant in
    kept_both _ [] [] _ c.loop.self _ i.1
    (kept_same _ c.loop.self _ (same_worker c.loop.self _ c.args.k c.index_mut.result.now c.take_receipt.new.self (is_seated _ _ _ _ i.0) c.index_mut.ensures.value c.in-None-take_receipt.ensures.none.1 refl refl refl refl))
