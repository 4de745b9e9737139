use Rattle.line_script.specs.Script.{lines_with_feeds}
use Rattle.std.specs.Map.{values_of}
use Rattle.live_feed.proofs.LastingLines.{IsAddedSoFar}
use Rattle.live_feed.proofs.lasting.Lines.push_events.Given as goal

abbrev pub invariant-loop-line : goal.invariant-loop-line
invariant-loop-line l = IsAddedSoFar (lines_with_feeds) l.fn.text.items (values_of l.fn.self.lasting.events) l.line-iterator l.text.items
