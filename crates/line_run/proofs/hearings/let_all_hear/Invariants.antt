use Rattle.std.proofs.Common.{◌^◌, ◌-◌, List, drop}
use Rattle.host_journal.specs.Logs.{Log}
use Rattle.line_run.specs.ServedNetworks.{AllIsHeard}
use Rattle.line_run.proofs.hearings.let_all_hear.Given as goal

abbrev pub invariant-loop-at : goal.invariant-loop-at
invariant-loop-at g l =
    (new : List Log) → AllIsHeard l.number l.slot l.names l.world (drop l.at l.waiting.items) new → AllIsHeard l.number l.slot l.names l.fn.world l.fn.waiting.items new

abbrev pub decreases-loop-at : goal.decreases-loop-at
decreases-loop-at g l = 2 ^ 63 - l.at
