-- Cells and their seats, and what a call of a seat leaves.
use Rattle.std.specs.Prelude.{◌≡◌, ◌↔◌, ◌+◌, ℕ, List, [], ◌∷◌, ◌++◌, length, None, Some, slice_get, true, false}
use mathlib.Core.List.{IsPrefix}
use Rattle.atomic_table.specs.Seated.{TableId}
use Rattle.scp_types.specs.declared.event.Event.{Event}
use Rattle.scp_types.specs.declared.event.Out.{Out}
use Rattle.host_network.specs.Decoding.{step_of}
use Rattle.scp_spec.specs.Hosts.{Config, Entry}
use Rattle.scp_spec.specs.Runs.{outs_given, refusal_of}
use Rattle.host_journal.specs.Logs.{IsEntered}
use Rattle.pool_cell.specs.declared.refusal.CellRefusal.{CellRefusal}
use Rattle.pool_cell.specs.declared.refusal.CellRefusal.TheVariants.{Closed}
use Rattle.pool_cell.specs.Receipts.{AppliedEvent, receipt, receipt_entry}
use Rattle.pool_cell.specs.Rule.{denial, new_seat}
use Rattle.pool_cell.specs.Sights.{CellSight, SeatSight}
use Rattle.pool_cell.specs.Sounds.{IsWhy}
use Rattle.pool_cell.specs.Views.{CellStateSight}

-- an open seat of this cell
pub record IsSeatOf (c : CellSight) (s : SeatSight) : Type 0 where
  pub cell : s.cell ≡ c.cell
  pub config : s.me.config ≡ c.config
  pub seats : s.me.seats ≡ c.seats
  pub open_yet : s.me.closed ≡ false

-- seats of this cell, made just now and numbered from 0 on
abbrev pub AllFresh : TableId → Config → ℕ → List SeatSight → Type 0
AllFresh cell config seats all =
    (k : ℕ) (s : SeatSight) → slice_get all k ≡ Some s → (s.cell ≡ cell) × (s.me ≡ new_seat config seats k)

-- an event was entered in the journal that lies under the lock, and its receipt made
pub record IsEnteredAt (old : CellStateSight) (event : Event) (r : AppliedEvent) (new : CellStateSight) : Type 0 where
  pub running : old.stopped ≡ false
  pub entered : IsEntered old.log (step_of event) r.outs
  pub made : r ≡ receipt old.log.config old.log.entries event r.outs
  pub cell_state : new ≡ record old { log = record old.log { entries = old.log.entries ++ receipt_entry r ∷ [] } }

-- why an event was not entered; the stop mark comes first
abbrev pub IsDenied : CellStateSight → Event → CellRefusal → Type 0
IsDenied d event r = IsWhy d.log.config d.log.entries d.stopped event r × ((r ≡ Closed) ↔ (d.stopped ≡ true))

-- A seat gained one receipt, of this event with what it gives out after the entries before it. After these it is not
-- refused. Nothing else changed at the seat but what it saw.
pub record HasGainedReceipt (c : CellSight) (event : Event) (old new : SeatSight) : Type 0 where
  pub before : List Entry
  pub given : List Out
  pub seen_before : IsPrefix old.me.seen before
  pub free : refusal_of c.config before (step_of event) ≡ None
  pub outs : given ≡ outs_given c.config before (step_of event)
  pub receipts : new.me.receipts ≡ old.me.receipts ++ receipt c.config before event given ∷ []
  pub seen : new.me.seen ≡ before ++ receipt_entry (receipt c.config before event given) ∷ []
  pub denials : new.me.denials ≡ old.me.denials
  pub stops : new.me.stops ≡ old.me.stops
  pub let_go : new.let_go ≡ old.let_go

-- A seat gained one denial, and nothing else but what it saw.
pub record IsDenial (event : Event) (r : CellRefusal) (old new : SeatSight) : Type 0 where
  pub receipts : new.me.receipts ≡ old.me.receipts
  pub denials : new.me.denials ≡ old.me.denials ++ denial event r (length new.me.seen) ∷ []
  pub stops : new.me.stops ≡ old.me.stops
  pub let_go : new.let_go ≡ old.let_go

-- A seat set the stop mark once more, and gained nothing but what it saw.
pub record IsStopped (old new : SeatSight) : Type 0 where
  pub stopped : new.me.stopped ≡ true
  pub stops : new.me.stops ≡ old.me.stops + 1
  pub receipts : new.me.receipts ≡ old.me.receipts
  pub denials : new.me.denials ≡ old.me.denials
  pub let_go : new.let_go ≡ old.let_go

-- A seat gained nothing but what it saw.
pub record IsSameButSeen (old new : SeatSight) : Type 0 where
  pub receipts : new.me.receipts ≡ old.me.receipts
  pub denials : new.me.denials ≡ old.me.denials
  pub stops : new.me.stops ≡ old.me.stops
  pub let_go : new.let_go ≡ old.let_go
