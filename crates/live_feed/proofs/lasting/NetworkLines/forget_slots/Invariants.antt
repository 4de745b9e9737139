use Rattle.std.specs.Map.{values_of}
use Rattle.live_feed.proofs.LastingLines.{SlotsAreGoneSoFar}
use Rattle.live_feed.proofs.lasting.NetworkLines.forget_slots.Given as goal

abbrev pub invariant-loop-slot : goal.invariant-loop-slot
invariant-loop-slot l = SlotsAreGoneSoFar (values_of l.fn.self.slots) l.slot-iterator l.fn.events.entries l.events.entries
