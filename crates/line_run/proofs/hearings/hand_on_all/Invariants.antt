use Rattle.std.proofs.Common.{◌^◌, ◌-◌, ◌≤◌, List, Option, drop, length}
use Rattle.scp_types.specs.declared.event.Refusal.{Refusal}
use Rattle.host_network.specs.declared.emission.Emission.{Emission}
use Rattle.host_journal.specs.Logs.{Log}
use Rattle.line_run.specs.Settling.{AreHandedOn}
use Rattle.line_run.proofs.hearings.hand_on_all.Given as goal

abbrev pub invariant-loop-at : goal.invariant-loop-at
invariant-loop-at g l =
    ((ended : Option Refusal) (left : List Emission) (new : List Log) → AreHandedOn l.number l.slot l.names l.world (drop l.at l.waiting.items) ended left new
    → AreHandedOn l.number l.slot l.names l.fn.world l.fn.waiting.items ended left new)
    × (l.at ≤ length l.waiting.items)

abbrev pub decreases-loop-at : goal.decreases-loop-at
decreases-loop-at g l = 2 ^ 63 - l.at
