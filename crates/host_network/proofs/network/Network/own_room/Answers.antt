use Rattle.host_network.specs.Deeds.{own_source}
use Rattle.host_network.proofs.network.Network.own_room.Goals as goal

pub has_room-requires : goal.has_room-requires
has_room-requires g c = (own_source c.args.self.now.config.roster c.requires.slot.0 c.args.node.now, c.own_events-drawn.ensures c.requires.slot.0 c.requires.slot.1)
