use Rattle.live_feed.proofs.PieceLaws.{goes_on, line_read}
use Rattle.live_feed.proofs.reading.next_line.Goals as goal

pub loop-preserved : goal.loop-preserved
loop-preserved g c = goes_on _ _ _ _ _ _ c.loop.invariant (rw c.in-Part.is at c.in_ok-read_piece.ensures.next)

pub returns-in-Last-clause-next : goal.returns-in-Last-clause-next
returns-in-Last-clause-next g c = line_read _ _ _ _ _ _ c.in-Last.more c.loop.invariant (rw c.in-Last.is at c.in_ok-read_piece.ensures.next)
