-- The types of a cell may cross threads: each owns and shows only memory, and names no thread.
use denote.RattleType.{RattleType}
use denote.Param.Send.{IsSend, IsSync, sendable}
use Rattle.std.proofs.Crossing.{crosses}
use Rattle.scp_types.proofs.node_id.NodeId.TheSendSync as name
use Rattle.scp_types.proofs.statement.Statement.TheSendSync as statement
use Rattle.scp_types.proofs.value.Value.TheSendSync as value
use Rattle.scp_types.specs.contracts.envelope.Envelope as Envelope
use Rattle.scp_types.specs.contracts.event.Out as Out
use Rattle.node_store.specs.declared.shelf.Places.{Ghosts}
use Rattle.node_store.specs.declared.shelf.Shelf.{Ghosts as ShelfGhosts}
use Rattle.pool_cell.proofs.publisher.Publisher.TheSendSync as publisher
use Rattle.host_journal.proofs.Crossing.{config_send, config_sync, event_send, journal_send, kept_entries_send, nested_send}
use Rattle.host_journal.specs.contracts.kept_entries.Kept as Kept
use Rattle.host_journal.specs.contracts.kept_entries.KeptKeeping.TheImpl.{ghosts}
use Rattle.atomic_table.proofs.shared.Seat.TheSendSync as pass
use Rattle.crossbeam_queue.proofs.array_queue.Slotted.TheSendSync as queue
use Rattle.std.specs.declared.sync.Wait.{Ghosts as WaitGhosts}
use Rattle.pool_cell.specs.contracts.cell.Cell as Cell
use Rattle.pool_cell.specs.contracts.cell_state.CellState as CellState
use Rattle.pool_cell.specs.contracts.receipt.Receipt as Receipt
use Rattle.pool_cell.specs.contracts.seat.Seat as Seat

pub envelope_send : IsSend (Envelope.the_row)
envelope_send = search (sendable, crosses, name.the_send, nested_send, statement.the_field_send) depth 40

out_send : IsSend (Out.the_field.row)
out_send = search (sendable, crosses, envelope_send, value.the_send) depth 40

receipt_send : IsSend (Receipt.the_row)
receipt_send = search (sendable, crosses, event_send, out_send) depth 40

-- S is a shelf, P its places, and H the handle by which what was decided is published
module _ (S H P : RattleType) (g : Ghosts S.Denot P.Denot) where
  cell_state_send : IsSend S → IsSend H → IsSend P → IsSend (CellState.the_row S H P g)
  cell_state_send s h p = let a = journal_send S Kept.the_row P g ghosts s kept_entries_send p in search (sendable, crosses, publisher.the_send) depth 40

  pub seat_send : IsSend S → IsSend H → IsSend P → IsSend (Seat.the_row S H P g)
  seat_send s h p = let a = cell_state_send s h p in search (sendable, crosses, pass.the_send, receipt_send) depth 40

  pub cell_sync : (k : ShelfGhosts S.Denot P.Denot) (w : WaitGhosts H.Denot) → IsSend S → IsSend H → IsSend P → IsSync (Cell.the_row S H P k g w)
  cell_sync k w s h p = let a = cell_state_send s h p in search (sendable, crosses, queue.the_field_sync, config_sync) depth 40

  pub cell_send : (k : ShelfGhosts S.Denot P.Denot) (w : WaitGhosts H.Denot) → IsSend S → IsSend H → IsSend P → IsSend (Cell.the_row S H P k g w)
  cell_send k w s h p = let a = cell_state_send s h p in search (sendable, crosses, queue.the_field_send, config_send) depth 40
