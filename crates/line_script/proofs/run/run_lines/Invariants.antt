use Rattle.std.proofs.Common.{length}
use Rattle.line_script.proofs.RunLaws.{Continues}
use Rattle.line_script.specs.Script.{numbered_lines}
use Rattle.line_script.proofs.run.run_lines.Given as goal

abbrev pub invariant-loop-line : goal.invariant-loop-line
invariant-loop-line g l = Continues g.S.LineRunner.tells g.S.LineRunner.refuses l.fn.runner l.fn.text.items (g.W.Write.contents l.fn.out) (g.W.Write.contents l.out) l.runner (numbered_lines l.left)

abbrev pub decreases-loop-line : goal.decreases-loop-line
decreases-loop-line g l = length l.left.1
