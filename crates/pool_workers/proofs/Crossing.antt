-- The types of a pool may cross threads: each owns and shows only memory, and names no thread.
use denote.RattleType.{RattleType}
use denote.Param.Send.{IsSend, IsSync, sendable}
use Rattle.std.proofs.Crossing.{crosses}
use Rattle.std.specs.declared.sync.Wait.{Ghosts as WaitGhosts}
use Rattle.node_store.specs.declared.shelf.Places.{Ghosts}
use Rattle.node_store.specs.declared.shelf.Shelf.{Ghosts as ShelfGhosts}
use Rattle.host_journal.proofs.Crossing.{event_send, event_sync}
use Rattle.atomic_table.proofs.shared.Seat.TheSendSync as pass
use Rattle.crossbeam_queue.proofs.array_queue.Slotted.TheSendSync as slotted
use Rattle.pool_queue.specs.contracts.rule.Job as Job
use Rattle.pool_queue.specs.contracts.line.Queue as Queue
use Rattle.pool_cell.proofs.Crossing.{cell_send, cell_sync, seat_send}
use Rattle.pool_workers.specs.contracts.host.Host as Host
use Rattle.pool_workers.specs.contracts.shared.Shared as Shared
use Rattle.pool_workers.specs.contracts.worker.Worker as Worker

job_send : IsSend (Job.the_row)
job_send = search (sendable, crosses, event_send) depth 40

job_sync : IsSync (Job.the_row)
job_sync = search (sendable, crosses, event_sync) depth 40

queue_send : IsSend (Queue.the_row)
queue_send = search (sendable, crosses, slotted.the_field_send, job_send, job_sync) depth 40

queue_sync : IsSync (Queue.the_row)
queue_sync = search (sendable, crosses, slotted.the_field_sync, job_send, job_sync) depth 40

-- S is a shelf, P its places, and H the handle by which what was decided is published
module _ (S H P : RattleType) (g : Ghosts S.Denot P.Denot) where
  pub worker_send : IsSend S → IsSend H → IsSend P → IsSend (Worker.the_row S H P g)
  worker_send s h p = let a = seat_send S H P g s h p in search (sendable, crosses, pass.the_send, job_send) depth 40

  pub shared_sync : (k : ShelfGhosts S.Denot P.Denot) (w : WaitGhosts H.Denot) → IsSend S → IsSend H → IsSend P → IsSync (Shared.the_row S H P k g w)
  shared_sync k w s h p = let a = cell_sync S H P g k w s h p in search (sendable, crosses, queue_sync) depth 40

  pub host_send : (k : ShelfGhosts S.Denot P.Denot) (w : WaitGhosts H.Denot) → IsSend S → IsSend H → IsSend P → IsSend (Host.the_row S H P k g w)
  host_send k w s h p =
      let a = cell_send S H P g k w s h p in
      let b = seat_send S H P g s h p in
      search (sendable, crosses, queue_send) depth 60
