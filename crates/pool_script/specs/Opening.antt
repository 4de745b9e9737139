-- A network as it is hosted, before its first job.
use Rattle.std.specs.Prelude.{◌≡◌, ◌⊎◌, ℕ, List, [], ◌∷◌}
use Rattle.scp_types.specs.declared.event.Event.TheVariants.{OpenSlot}
use Rattle.scp_spec.specs.Hosts.{Config}
use Rattle.pool_cell.specs.declared.refusal.CellRefusal.{CellRefusal}
use Rattle.pool_cell.specs.Cells.{AllFresh, HasGainedReceipt, IsDenial}
use Rattle.pool_cell.specs.Sights.{CellSight, SeatSight}
use Rattle.pool_cell.specs.Sounds.{IsWhy}
use Rattle.pool_workers.specs.NetSights.{NetSight}

-- a seat has asked to open a slot: this was applied, or it was refused
abbrev pub HasAsked : CellSight → ℕ → SeatSight → SeatSight → Type 0
HasAsked c slot old new =
    HasGainedReceipt c (OpenSlot slot) old new
    ⊎ ((r : CellRefusal) × IsDenial (OpenSlot slot) r old new × IsWhy c.config new.me.seen new.me.stopped (OpenSlot slot) r)

-- a seat has asked to open slots, one after the other
pub data HaveAsked (c : CellSight) : List ℕ → SeatSight → SeatSight → Type 0 where
  none : {s : SeatSight} → HaveAsked c [] s s
  more : {slot : ℕ} {slots : List ℕ} {s t u : SeatSight} → HasAsked c slot s t → HaveAsked c slots t u
      → HaveAsked c (slot ∷ slots) s u

-- a network of this configuration with one seat, which has done nothing but ask to open these slots
pub record IsReadyNetwork (given : Config) (slots : List ℕ) (n : NetSight) : Type 0 where
  pub config : n.cell.config ≡ given
  pub count : n.cell.seats ≡ 1
  pub made : SeatSight
  pub fresh : AllFresh n.cell.cell given 1 (made ∷ [])
  pub seat : SeatSight
  pub asked : HaveAsked n.cell slots made seat
  pub seats : n.seats ≡ seat ∷ []
