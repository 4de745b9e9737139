use Rattle.host_closure.specs.Turns.{AreIndexed}
use Rattle.host_closure.proofs.deliveries.Deliveries.of.Given as goal

abbrev pub invariant-loop-number : goal.invariant-loop-number
invariant-loop-number g l = AreIndexed l.fn.slot (g.J.Announcements.entries l.journal) l.number l.deliveries
