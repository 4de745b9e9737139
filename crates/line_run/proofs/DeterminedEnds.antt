-- What becomes of a script is determined.
use Rattle.std.proofs.Common.{List, Ok, refl, subst, sym}
use Rattle.std.specs.List.{enumerate_from}
use Rattle.line_script.specs.Script.{Bytes}
use Rattle.line_script.specs.Runs.{Runs}
use Rattle.line_run.specs.Determined.{BecomeAlike}
use Rattle.line_run.specs.Unprinted.{RefusesUnprinted, TellsUnprinted, Unprinted}
use Rattle.line_run.proofs.DeterminedRuns.{alike, ends_do_one_thing, runs_do_one_thing}
use Rattle.line_run.proofs.OneCut.{one-lines}
use Rattle.line_run.specs.DeterminedAnswers.{ScriptsHaveOneEnd}
use Rattle.line_run.specs.Scripts.{HaveRun}

-- after the lines of one text the networks are alike, and the traces the same
one-run : (text : Bytes) (start one other : Unprinted) → HaveRun TellsUnprinted RefusesUnprinted start text one → HaveRun TellsUnprinted RefusesUnprinted start text other
    → BecomeAlike start start one other
one-run text start one other h k =
    runs_do_one_thing start start one other (enumerate_from 1 h.lines) h.printed k.printed (alike start.hosting) h.ran
    (subst (λ (lines : List Bytes). Runs TellsUnprinted RefusesUnprinted start (enumerate_from 1 lines) k.printed (Ok tt) other) (sym (one-lines text h.lines k.lines h.are_lines k.are_lines)) k.ran)

pub scripts_have_one_end : ScriptsHaveOneEnd
scripts_have_one_end text start one other h k =
    let last = one-run text start h.last k.last h.ran k.ran in
    let end = ends_do_one_thing h.last k.last one other last.0.waiting last.0.logs h.finished k.finished in
    (end.0, end.1 (last.1 refl))
