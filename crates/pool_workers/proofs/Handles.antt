-- A handle on a store of envelopes may cross threads, as the shelf of cells.
use denote.RattleType.{RattleType}
use denote.Param.Send.{IsSend, IsSync, sendable}
use Rattle.std.proofs.Crossing.{crosses}
use Rattle.boxcar.proofs.slot.OnceSlot.TheSendSync as slot
use Rattle.boxcar.proofs.tag.Tag.TheSendSync as tag
use Rattle.scp_types.proofs.node_id.NodeId.TheSendSync as name
use Rattle.scp_types.proofs.statement.Statement.TheSendSync as statement
use Rattle.scp_types.specs.contracts.envelope.Envelope as Envelope
use Rattle.node_store.specs.contracts.shared.SharedHandle as SharedHandle
use Rattle.host_journal.proofs.Crossing.{nested_sync}
use Rattle.pool_cell.proofs.Crossing.{envelope_send}

pub envelope_sync : IsSync (Envelope.the_row)
envelope_sync = search (sendable, crosses, name.the_sync, nested_sync, statement.the_field_sync) depth 40

pub handle_send : (R : RattleType) → IsSend R → IsSync R → IsSend (SharedHandle.the_row R)
handle_send R s y = search (sendable, crosses, envelope_send, envelope_sync, slot.the_send, slot.the_sync, tag.the_send, tag.the_sync) depth 40
