use Rattle.line_script.specs.Script.{numbered_lines}
use Rattle.line_run.proofs.LineLaws.{IsLeft}
use Rattle.line_run.proofs.finished_script.nth_record.Given as goal

abbrev pub invariant-loop-line : goal.invariant-loop-line
invariant-loop-line l = IsLeft l.text l.fn.number (numbered_lines l.line-iterator) l.left
