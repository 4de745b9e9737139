use Rattle.std.proofs.Common.{refl, ap, sym, subst}
use Rattle.std.proofs.lemmas.Result.{err_from_is_err_and}
use Rattle.line_script.specs.Script.{lines_of, numbered_lines}
use Rattle.line_script.proofs.RunLaws.{Continues, one_more, starts, ended, ended_by}
use Rattle.line_script.proofs.ScriptLemmas.{lines_are_lines}
use Rattle.line_script.proofs.run.run_lines.Goals as goal

pub loop-line-init : goal.loop-line-init
loop-line-init g c = starts _ _ _ _ _ (lines_of c.args.text.items) _ (lines_are_lines c.args.text.items) (ap numbered_lines c.of-left.ensures)

pub loop-line-preserved : goal.loop-line-preserved
loop-line-preserved g c =
    let ran = c.in_ok-run_line.ensures in
    let first = c.in-Some.ensures.some in
    subst (Continues _ _ _ _ _ _ _) (sym (c.pass.ensures.passed _ _ _ first.2 refl))
    (one_more _ _ _ _ _ _ _ _ _ _ _ ran.0 _ _ c.loop-line.invariant first.2 ran.1 ran.2)

pub returns-in_err-run_line : goal.returns-in_err-run_line
returns-in_err-run_line g c =
    let ran = ended_by _ _ _ _ _ _ _ _ _ _ _ _ _ _ c.loop-line.invariant c.in-Some.ensures.some.2 c.in_err-run_line.ensures in
    let out = err_from_is_err_and c.from_residual.result c.from_residual.ensures.1 in
    rw (out.1, out.2) ran

pub returns-in_default : goal.returns-in_default
returns-in_default g c = ended _ _ _ _ _ _ _ _ tt c.loop-line.invariant (c.in_default.ensures.none refl)
