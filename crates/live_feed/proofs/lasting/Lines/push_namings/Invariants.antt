use Rattle.std.specs.List.{flat_map}
use Rattle.live_feed.specs.Lasting.{naming_text}
use Rattle.live_feed.proofs.LastingLines.{IsAddedSoFar}
use Rattle.live_feed.proofs.lasting.Lines.push_namings.Given as goal

abbrev pub invariant-loop-number : goal.invariant-loop-number
invariant-loop-number l = IsAddedSoFar (flat_map naming_text) l.fn.text.items (l.fn.self.networks) l.number-iterator l.text.items
