use Rattle.std.proofs.Common.{◌≡◌, ◌^◌, ◌-◌, ◌++◌, List, drop}
use Rattle.host_network.specs.Standing.{machine_of}
use Rattle.live_network.specs.Serving.{ToldReply}
use Rattle.live_network.specs.Telling.{tellings_of}
use Rattle.live_network.proofs.Leading.{ComesTo}
use Rattle.live_network.proofs.hearing.hear_all.Given as goal

abbrev pub invariant-loop-at : goal.invariant-loop-at
invariant-loop-at g l =
    (told : List ToldReply) × (tellings_of l.following.told.items ≡ tellings_of l.fn.following.told.items ++ told)
    × ComesTo l.slot l.names l.fn.following.emissions.items (machine_of l.fn.network) (drop l.at l.following.emissions.items) told (machine_of l.network)
    × (l.network.config ≡ l.fn.network.config)

abbrev pub decreases-loop-at : goal.decreases-loop-at
decreases-loop-at g l = 2 ^ 63 - l.at
