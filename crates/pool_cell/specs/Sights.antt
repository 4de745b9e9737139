-- What contracts see of a cell and of a seat.
use Rattle.std.specs.Prelude.{◌-◌, ℕ, List, length}
use Rattle.atomic_table.specs.Seated.{TableId}
use Rattle.crossbeam_queue.specs.Passes.{Pass, view}
use Rattle.scp_spec.specs.Hosts.{Config}
use Rattle.pool_cell.specs.Receipts.{AppliedEvent}
use Rattle.pool_cell.specs.Views.{CellStateSight, Knowledge}

-- what is seen of a cell: which one it is, the configuration of its network, and how many seats it has
pub record CellSight : Type 0 where
  pub cell : TableId
  pub config : Config
  pub seats : ℕ

-- What is seen of a seat: the cell that it is of, and what it knows. Of its receipts it has let go the first ones, as
-- many as the number says.
pub record SeatSight : Type 0 where
  pub cell : TableId
  pub me : Knowledge
  pub let_go : ℕ

-- what is seen of a seat, by its pass and the receipts that it keeps
abbrev pub sight_of : Pass CellStateSight Knowledge → List AppliedEvent → SeatSight
sight_of p kept = record { cell = p.table_id; me = view p; let_go = length (view p).receipts - length kept }
