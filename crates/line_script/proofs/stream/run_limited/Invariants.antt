use Rattle.line_script.proofs.StreamLaws.{Streams}
use Rattle.line_script.proofs.stream.run_limited.Given as goal

abbrev pub invariant-loop-bytes : goal.invariant-loop-bytes
invariant-loop-bytes g l = Streams 67108864 g.S.LineRunner.tells g.S.LineRunner.refuses l.fn.runner (g.R.Read.remaining l.fn.script) (g.R.Read.remaining l.script) (g.W.Write.contents l.fn.out) (g.W.Write.contents l.out) l.runner l.number l.room

abbrev pub decreases-loop-bytes : goal.decreases-loop-bytes
decreases-loop-bytes g l = l.room
