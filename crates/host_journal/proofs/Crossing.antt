-- The types of a journal may cross threads: each owns and shows only memory, and names no thread.
use denote.RattleType.{RattleType}
use denote.Param.Send.{IsSend, IsSync, sendable}
use Rattle.std.proofs.Crossing.{crosses}
pub use Rattle.host_network.proofs.Crossing.{config_send, config_sync, nested_send, nested_sync}
use Rattle.host_network.proofs.Crossing.{network_send, network_sync}
use Rattle.scp_types.proofs.bytes.Bytes.TheSendSync as bytes
use Rattle.scp_types.proofs.value.Value.TheSendSync as value
use Rattle.scp_types.proofs.node_id.NodeId.TheSendSync as name
use Rattle.scp_types.proofs.kind.Kind.TheSendSync as kind
use Rattle.node_store.specs.declared.shelf.Places.{Ghosts}
use Rattle.scp_types.specs.contracts.event.Event as Event
use Rattle.node_core.specs.contracts.filed.FiledOut as FiledOut
use Rattle.host_journal.specs.contracts.event_room.EventRoom as EventRoom
use Rattle.host_journal.specs.contracts.kept.KeptEvent as KeptEvent
use Rattle.host_journal.specs.contracts.kept.StoredEntry as StoredEntry
use Rattle.host_journal.specs.contracts.outs_list.EntryOuts as EntryOuts
use Rattle.host_journal.specs.declared.keeping.Keeping.{Ghosts as Keeps}
use Rattle.host_journal.specs.contracts.kept_entries.Kept as Kept
use Rattle.host_journal.specs.contracts.journal.Journal as Journal

out_sync : IsSync (FiledOut.the_row)
out_sync = search (sendable, crosses, value.the_sync) depth 40

out_send : IsSend (FiledOut.the_row)
out_send = search (sendable, crosses, value.the_send) depth 40

entry_outs_sync : IsSync (EntryOuts.the_row)
entry_outs_sync = search (sendable, crosses, out_sync) depth 40

entry_outs_send : IsSend (EntryOuts.the_row)
entry_outs_send = search (sendable, crosses, out_send) depth 40

pub event_sync : IsSync (Event.the_field.row)
event_sync = search (sendable, crosses, name.the_sync, bytes.the_sync, nested_sync, kind.the_field_sync) depth 40

pub event_send : IsSend (Event.the_field.row)
event_send = search (sendable, crosses, name.the_send, bytes.the_send, nested_send, kind.the_field_send) depth 40

kept_event_sync : IsSync (KeptEvent.the_field.row)
kept_event_sync = search (sendable, crosses, event_sync, kind.the_field_sync) depth 40

kept_event_send : IsSend (KeptEvent.the_field.row)
kept_event_send = search (sendable, crosses, event_send, kind.the_field_send) depth 40

kept_sync : IsSync (StoredEntry.the_row)
kept_sync = search (sendable, crosses, kept_event_sync) depth 40

kept_send : IsSend (StoredEntry.the_row)
kept_send = search (sendable, crosses, kept_event_send) depth 40

room_sync : IsSync (EventRoom.the_field.row)
room_sync = search (sendable, crosses, event_sync) depth 40

room_send : IsSend (EventRoom.the_field.row)
room_send = search (sendable, crosses, event_send) depth 40

pub kept_entries_sync : IsSync (Kept.the_row)
kept_entries_sync = search (sendable, crosses, kept_sync, entry_outs_sync, room_sync) depth 40

pub kept_entries_send : IsSend (Kept.the_row)
kept_entries_send = search (sendable, crosses, kept_send, entry_outs_send, room_send) depth 40

module _ (S K P : RattleType) (g : Ghosts S.Denot P.Denot) (k : Keeps K.Denot) where
  pub journal_sync : IsSync S → IsSync K → IsSync P → IsSync (Journal.the_row S K P g k)
  journal_sync s h p = let a = network_sync S P g s p in search (sendable, crosses) depth 40

  pub journal_send : IsSend S → IsSend K → IsSend P → IsSend (Journal.the_row S K P g k)
  journal_send s h p = let a = network_send S P g s p in search (sendable, crosses) depth 40
