use Rattle.std.proofs.Common.{sym, subst}
use Rattle.pool_workers.specs.Sums.{IsJobDone}
use Rattle.pool_workers.proofs.Sums.{answered}
use Rattle.pool_workers.proofs.applying.try_apply_by.Goals as goal

pub returns-in-Ok-clause-done : goal.returns-in-Ok-clause-done
returns-in-Ok-clause-done g c =
    let e = c.try_apply.ensures in
    let a = c.in-Ok.ensures in
    subst (IsJobDone _ _ _) (sym c.is_ok.ensures.value) (answered _ _ c.args.cell.now c.args.job c.in-Ok.answer c.requires.job c.requires.seat e.seat e.number a.ok a.err e.seen e.lasting)
