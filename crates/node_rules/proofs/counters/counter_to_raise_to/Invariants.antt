use Rattle.std.proofs.Common.{◌-◌}
use Rattle.node_rules.proofs.RaiseLaws.{Raised}
use Rattle.node_rules.proofs.counters.counter_to_raise_to.Given as goal

abbrev pub invariant-loop-number : goal.invariant-loop-number
invariant-loop-number g l = Raised (g.S.Sight.seen l.sight) l.position l.from l.most l.number

abbrev pub decreases-loop-number : goal.decreases-loop-number
decreases-loop-number g l = l.most - l.number
