-- Shards, and what they are asked, may cross threads: each owns and shows only memory, and names no thread.
use denote.RattleType.{RattleType}
use denote.Param.Send.{IsSend, IsSync, sendable}
use Rattle.std.proofs.Crossing.{crosses}
use Rattle.std.proofs.MapsCrossing.{crosses as maps}
use Rattle.std.specs.contracts.alloc.Global as Global
use Rattle.std.specs.contracts.boxed.Box as Box
use Rattle.std.specs.contracts.impls.GlobalAllocator.TheImpl as frees
use Rattle.scp_types.proofs.node_id.NodeId.TheSendSync as name
use Rattle.scp_types.proofs.statement.Statement.TheSendSync as statement
use Rattle.scp_types.specs.contracts.envelope.Envelope as Envelope
use Rattle.host_config.proofs.budgets.Budgets.TheSendSync as budgets
use Rattle.node_store.specs.contracts.box_shelf.BoxShelf as BoxShelf
use Rattle.node_store.specs.contracts.box_shelf.BoxShelfPlaces.TheImpl as places
use Rattle.host_network.specs.contracts.network.Network as Network
use Rattle.host_network.proofs.Crossing.{hosted_send, hosted_sync, nested_send, nested_sync, network_send, network_sync}
use Rattle.line_request.specs.contracts.outlines.Outline as Outline
use Rattle.line_request.specs.contracts.waiting.Waiting as Waiting
use Rattle.live_feed.specs.contracts.answering.Answer as Answer
use Rattle.live_network.specs.contracts.served.ServedNetwork as ServedNetwork
use Rattle.live_host.specs.contracts.host.LiveHost as LiveHost
use Rattle.live_shards.specs.contracts.shard.Shard as Shard

envelope_sync : IsSync (Envelope.the_row)
envelope_sync = search (sendable, crosses, name.the_sync, nested_sync, statement.the_field_sync) depth 40

envelope_send : IsSend (Envelope.the_row)
envelope_send = search (sendable, crosses, name.the_send, nested_send, statement.the_field_send) depth 40

-- where an envelope was put
abbrev place : RattleType
place = Box.the_row Envelope.the_row Global.the_row frees.ghosts

place_sync : IsSync place
place_sync = search (sendable, crosses, envelope_sync) depth 40

place_send : IsSend place
place_send = search (sendable, crosses, envelope_send) depth 40

shelf_sync : IsSync (BoxShelf.the_row)
shelf_sync = search (sendable, crosses) depth 40

shelf_send : IsSend (BoxShelf.the_row)
shelf_send = search (sendable, crosses) depth 40

net_sync : IsSync (Network.the_row BoxShelf.the_row place places.ghosts)
net_sync = network_sync BoxShelf.the_row place places.ghosts shelf_sync place_sync

net_send : IsSend (Network.the_row BoxShelf.the_row place places.ghosts)
net_send = network_send BoxShelf.the_row place places.ghosts shelf_send place_send

served_sync : IsSync (ServedNetwork.the_row BoxShelf.the_row place places.ghosts)
served_sync = search (sendable, crosses, net_sync, name.the_sync) depth 40

served_send : IsSend (ServedNetwork.the_row BoxShelf.the_row place places.ghosts)
served_send = search (sendable, crosses, net_send, name.the_send) depth 40

outline_sync : IsSync (Outline.the_row)
outline_sync = search (sendable, crosses, hosted_sync, budgets.the_sync) depth 40

outline_send : IsSend (Outline.the_row)
outline_send = search (sendable, crosses, hosted_send, budgets.the_send) depth 40

waiting_sync : IsSync (Waiting.the_row)
waiting_sync = search (sendable, crosses, maps, outline_sync) depth 40

waiting_send : IsSend (Waiting.the_row)
waiting_send = search (sendable, crosses, maps, outline_send) depth 40

host_sync : IsSync (LiveHost.the_row)
host_sync = search (sendable, crosses, maps, waiting_sync, served_sync) depth 40

host_send : IsSend (LiveHost.the_row)
host_send = search (sendable, crosses, maps, waiting_send, served_send) depth 40

answer_sync : IsSync (Answer.the_field.row)
answer_sync = search (sendable, crosses) depth 40

answer_send : IsSend (Answer.the_field.row)
answer_send = search (sendable, crosses) depth 40

pub shard_sync : IsSync (Shard.the_field.row)
shard_sync = search (sendable, crosses, host_sync, answer_sync) depth 40

pub shard_send : IsSend (Shard.the_field.row)
shard_send = search (sendable, crosses, host_send, answer_send) depth 40
