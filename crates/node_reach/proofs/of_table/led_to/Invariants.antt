use Rattle.std.proofs.Common.{◌+◌, ◌-◌, length}
use Rattle.node_reach.proofs.Widening.{IsWidening, all_names}
use Rattle.node_reach.proofs.of_table.led_to.Given as goal

abbrev pub invariant-loop-next : goal.invariant-loop-next
invariant-loop-next g l = IsWidening l.table l.known l.sender l.sweep

abbrev pub decreases-loop-next : goal.decreases-loop-next
decreases-loop-next g l = length (all_names l.table l.known l.sender) + length l.sweep.pending - length l.sweep.found
