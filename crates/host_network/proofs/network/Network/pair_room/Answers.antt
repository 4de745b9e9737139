use Rattle.host_network.specs.Deeds.{pair_source}
use Rattle.host_network.proofs.network.Network.pair_room.Goals as goal

pub has_room-requires : goal.has_room-requires
has_room-requires g c = (pair_source c.args.self.now.config.roster c.requires.slot.0 c.args.node.now c.args.from.now, c.pair-drawn.ensures.drawn c.requires.slot.0 c.requires.slot.1)
