use Rattle.std.proofs.Common.{take}
use Rattle.scp_spec.specs.Sets.{among}
use Rattle.node_reach.specs.Sweeps.{AreNamesNoted, unknown}
use Rattle.node_reach.proofs.sweep.Sweep.note_all.Given as goal

abbrev pub invariant-loop-node : goal.invariant-loop-node
invariant-loop-node l = AreNamesNoted l.initial.self l.self (unknown l.known (among (take l.node-index l.nodes)))
