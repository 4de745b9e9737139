use Rattle.std.proofs.Common.{◌≡◌, take}
use Rattle.host_config.specs.Configs.{names_of}
use Rattle.host_network.specs.Standing.{machine_of}
use Rattle.live_network.specs.Serving.{hearings_of}
use Rattle.live_network.specs.Telling.{IsHeardByAll}
use Rattle.live_network.proofs.hearing.let_others_hear.Given as goal

abbrev pub invariant-loop-name : goal.invariant-loop-name
invariant-loop-name g l =
    IsHeardByAll l.slot (names_of l.fn.network.config.nodes) (hearings_of (take l.name-index l.names) l.emission) (machine_of l.fn.network) l.fn.following l.following (machine_of l.network)
    × (l.network.config ≡ l.fn.network.config)
