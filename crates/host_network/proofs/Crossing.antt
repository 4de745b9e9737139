-- The types of a network may cross threads: each owns and shows only memory, and names no thread.
use denote.RattleType.{RattleType}
use denote.Param.Send.{IsSend, IsSync, sendable}
use Rattle.std.proofs.Crossing.{crosses}
use Rattle.std.proofs.MapsCrossing.{crosses as maps}
use Rattle.scp_types.proofs.state.Inputs.TheSendSync as inputs
use Rattle.scp_types.proofs.state.Votes.TheSendSync as votes
use Rattle.scp_types.proofs.value.Value.TheSendSync as value
use Rattle.scp_types.proofs.node_id.NodeId.TheSendSync as name
use Rattle.scp_types.proofs.nested.SliceSet.TheLaws.TheKnot as slices
use Rattle.scp_bits.proofs.set.CompiledSet.TheLaws.TheKnot as compiled
use Rattle.host_config.proofs.budgets.Budgets.TheSendSync as budgets
use Rattle.host_config.proofs.roster.Roster.TheSendSync as roster
use Rattle.host_network.proofs.tallies.Tally.TheSendSync as tally
use Rattle.host_network.proofs.slot_index.SlotPlace.TheSendSync as slot_place
use Rattle.node_store.specs.declared.shelf.Places.{Ghosts}
use Rattle.scp_types.specs.contracts.nested.Nested as Nested
use Rattle.scp_bits.specs.contracts.form.Form as Form
use Rattle.node_view.specs.contracts.known_reach.KnownReach as KnownReach
use Rattle.node_view.specs.contracts.listed.ListedBallots as ListedBallots
use Rattle.node_view.specs.contracts.reached_ballots.ReachedBallots as ReachedBallots
use Rattle.node_view.specs.contracts.region.Region as Region
use Rattle.node_view.specs.contracts.shared.SharedReach as SharedReach
use Rattle.node_table.specs.contracts.index.Index as Index
use Rattle.node_table.proofs.places.RowPlace.TheSendSync as row_place
use Rattle.node_table.specs.contracts.places.RowPlaces as RowPlaces
use Rattle.node_table.specs.contracts.table.Table as Table
use Rattle.node_view.specs.contracts.configured.Configured as Configured
use Rattle.node_view.specs.contracts.listener.Listener as Listener
use Rattle.node_core.specs.contracts.node.Node as Node
use Rattle.node_leaders.proofs.draws.Hashed.TheSendSync as hashed
use Rattle.node_leaders.specs.contracts.draws.Draws as Draws
use Rattle.node_store.specs.contracts.filed.Filed as Filed
use Rattle.node_store.specs.contracts.archive.Archive as Archive
use Rattle.host_config.specs.contracts.hosted_node.HostedNode as HostedNode
use Rattle.host_config.specs.contracts.config.NetConfig as NetConfig
use Rattle.host_network.specs.contracts.tallies.Tallies as Tallies
use Rattle.host_network.specs.contracts.emission_log.EmissionLog as EmissionLog
use Rattle.host_network.specs.contracts.instance.Instance as Instance
use Rattle.host_network.specs.contracts.open_slot.OpenSlot as OpenSlot
use Rattle.host_network.specs.contracts.slot_index.SlotIndex as SlotIndex
use Rattle.host_network.specs.contracts.open_slots.OpenSlots as OpenSlots
use Rattle.host_network.specs.contracts.network.Network as Network

-- slices that copies share
pub nested_sync : IsSync (Nested.the_row)
nested_sync = search (sendable, crosses, slices.send-SliceSet, slices.sync-SliceSet) depth 40

pub nested_send : IsSend (Nested.the_row)
nested_send = search (sendable, crosses, slices.send-SliceSet, slices.sync-SliceSet) depth 40

-- forms that copies share
form_sync : IsSync (Form.the_row)
form_sync = search (sendable, crosses, compiled.send-CompiledSet, compiled.sync-CompiledSet) depth 40

form_send : IsSend (Form.the_row)
form_send = search (sendable, crosses, compiled.send-CompiledSet, compiled.sync-CompiledSet) depth 40

-- what a node knows of its reach
region_sync : IsSync (Region.the_field.row)
region_sync = search (sendable, crosses, name.the_sync, name.the_send, row_place.the_sync, compiled.sync-CompiledSet, form_sync) depth 40

region_send : IsSend (Region.the_field.row)
region_send = search (sendable, crosses, name.the_sync, name.the_send, row_place.the_send, compiled.send-CompiledSet, form_send) depth 40

listed_sync : IsSync (ListedBallots.the_row)
listed_sync = search (sendable, crosses, value.the_sync) depth 40

listed_send : IsSend (ListedBallots.the_row)
listed_send = search (sendable, crosses, value.the_send) depth 40

ballots_sync : IsSync (ReachedBallots.the_field.row)
ballots_sync = search (sendable, crosses, listed_sync) depth 40

ballots_send : IsSend (ReachedBallots.the_field.row)
ballots_send = search (sendable, crosses, listed_send) depth 40

known_sync : IsSync (KnownReach.the_row)
known_sync = search (sendable, crosses, region_sync, ballots_sync) depth 40

known_send : IsSend (KnownReach.the_row)
known_send = search (sendable, crosses, region_send, ballots_send) depth 40

places_sync : IsSync (RowPlaces.the_row)
places_sync = search (sendable, crosses, row_place.the_sync) depth 40

places_send : IsSend (RowPlaces.the_row)
places_send = search (sendable, crosses, row_place.the_send) depth 40

index_sync : IsSync (Index.the_row)
index_sync = search (sendable, crosses, maps, name.the_sync, places_sync) depth 40

index_send : IsSend (Index.the_row)
index_send = search (sendable, crosses, maps, name.the_send, places_send) depth 40

filed_sync : IsSync (Filed.the_row)
filed_sync = search (sendable, crosses) depth 40

filed_send : IsSend (Filed.the_row)
filed_send = search (sendable, crosses) depth 40

table_sync : IsSync (Table.the_row)
table_sync = search (sendable, crosses, index_sync, filed_sync) depth 40

table_send : IsSend (Table.the_row)
table_send = search (sendable, crosses, index_send, filed_send) depth 40

configured_sync : IsSync (Configured.the_field.row)
configured_sync = search (sendable, crosses, name.the_sync, nested_sync) depth 40

configured_send : IsSend (Configured.the_field.row)
configured_send = search (sendable, crosses, name.the_send, nested_send) depth 40

listener_sync : IsSync (Listener.the_row)
listener_sync = search (sendable, crosses, configured_sync, table_sync, known_sync) depth 40

listener_send : IsSend (Listener.the_row)
listener_send = search (sendable, crosses, configured_send, table_send, known_send) depth 40

node_sync : IsSync (Node.the_row)
node_sync = search (sendable, crosses, listener_sync, inputs.the_field_sync, votes.the_field_sync) depth 40

node_send : IsSend (Node.the_row)
node_send = search (sendable, crosses, listener_send, inputs.the_field_send, votes.the_field_send) depth 40

pub hosted_sync : IsSync (HostedNode.the_row)
hosted_sync = search (sendable, crosses, name.the_sync, nested_sync) depth 40

pub hosted_send : IsSend (HostedNode.the_row)
hosted_send = search (sendable, crosses, name.the_send, nested_send) depth 40

pub config_sync : IsSync (NetConfig.the_row)
config_sync = search (sendable, crosses, hosted_sync, name.the_sync, budgets.the_sync, roster.the_sync) depth 40

pub config_send : IsSend (NetConfig.the_row)
config_send = search (sendable, crosses, hosted_send, name.the_send, budgets.the_send, roster.the_send) depth 40

log_sync : IsSync (EmissionLog.the_row)
log_sync = search (sendable, crosses, filed_sync) depth 40

log_send : IsSend (EmissionLog.the_row)
log_send = search (sendable, crosses, filed_send) depth 40

tallies_sync : IsSync (Tallies.the_row)
tallies_sync = search (sendable, crosses, tally.the_sync) depth 40

tallies_send : IsSend (Tallies.the_row)
tallies_send = search (sendable, crosses, tally.the_send) depth 40

instance_sync : IsSync (Instance.the_row)
instance_sync = search (sendable, crosses, node_sync, log_sync, tallies_sync) depth 40

instance_send : IsSend (Instance.the_row)
instance_send = search (sendable, crosses, node_send, log_send, tallies_send) depth 40

draws_sync : IsSync (Draws.the_row)
draws_sync = search (sendable, crosses, hashed.the_sync) depth 40

draws_send : IsSend (Draws.the_row)
draws_send = search (sendable, crosses, hashed.the_send) depth 40

shared_sync : IsSync (SharedReach.the_field.row)
shared_sync = search (sendable, crosses, name.the_sync, form_sync) depth 40

shared_send : IsSend (SharedReach.the_field.row)
shared_send = search (sendable, crosses, name.the_sync, name.the_send, form_send) depth 40

slot_sync : IsSync (OpenSlot.the_row)
slot_sync = search (sendable, crosses, instance_sync, draws_sync, shared_sync) depth 40

slot_send : IsSend (OpenSlot.the_row)
slot_send = search (sendable, crosses, instance_send, draws_send, shared_send) depth 40

slot_index_sync : IsSync (SlotIndex.the_row)
slot_index_sync = search (sendable, crosses, slot_place.the_sync) depth 40

slot_index_send : IsSend (SlotIndex.the_row)
slot_index_send = search (sendable, crosses, slot_place.the_send) depth 40

slots_sync : IsSync (OpenSlots.the_row)
slots_sync = search (sendable, crosses, slot_sync, slot_index_sync) depth 40

slots_send : IsSend (OpenSlots.the_row)
slots_send = search (sendable, crosses, slot_send, slot_index_send) depth 40

module _ (S P : RattleType) (g : Ghosts S.Denot P.Denot) where
  archive_sync : IsSync S → IsSync P → IsSync (Archive.the_row S P g)
  archive_sync s p = search (sendable, crosses) depth 40

  archive_send : IsSend S → IsSend P → IsSend (Archive.the_row S P g)
  archive_send s p = search (sendable, crosses) depth 40

  pub network_sync : IsSync S → IsSync P → IsSync (Network.the_row S P g)
  network_sync s p = let a = archive_sync s p in search (sendable, crosses, config_sync, slots_sync) depth 40

  pub network_send : IsSend S → IsSend P → IsSend (Network.the_row S P g)
  network_send s p = let a = archive_send s p in search (sendable, crosses, config_send, slots_send) depth 40
