use Rattle.live_feed.proofs.PieceLaws.{LineSoFar}
use Rattle.live_feed.proofs.reading.next_line.Given as goal

abbrev pub invariant-loop : goal.invariant-loop
invariant-loop g l = LineSoFar 262144 (g.R.Read.remaining l.fn.reader) (g.R.Read.remaining l.reader) l.line
