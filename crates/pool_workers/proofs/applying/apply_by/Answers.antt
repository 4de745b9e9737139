use Rattle.std.proofs.Common.{sym, subst}
use Rattle.pool_workers.specs.Sums.{IsJobDone}
use Rattle.pool_workers.proofs.Sums.{answered}
use Rattle.pool_workers.proofs.applying.apply_by.Goals as goal

pub returns-clause-done : goal.returns-clause-done
returns-clause-done g c =
    let e = c.apply-answer.ensures in
    subst (IsJobDone _ _ _) (sym c.is_ok.ensures.value) (answered _ _ c.args.cell.now c.args.job c.apply-answer.result c.requires.job c.requires.seat e.seat e.number e.ok e.err c.apply-answer.ensures.seen c.apply-answer.ensures.lasting)
