use Rattle.live_feed.proofs.LastingLines.{AreGoneSoFar}
use Rattle.live_feed.proofs.lasting.forget.Given as goal

abbrev pub invariant-loop-number : goal.invariant-loop-number
invariant-loop-number g l = AreGoneSoFar l.numbers l.number-index l.fn.entries.entries l.entries.entries
