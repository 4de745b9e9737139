use Rattle.live_feed.specs.Reading.{AreNextLines}
use Rattle.live_feed.proofs.gathering.gather.Given as goal

abbrev pub invariant-loop : goal.invariant-loop
invariant-loop g l = AreNextLines 262144 (g.R.Read.remaining l.fn.input) (g.R.Read.remaining l.input) l.lines.items
