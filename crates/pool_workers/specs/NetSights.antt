-- What contracts see of a network of a host.
use Rattle.std.specs.Prelude.{List}
use Rattle.pool_cell.specs.Sights.{CellSight, SeatSight}

-- what is seen of a network of the host: its cell, and its seats
pub record NetSight : Type 0 where
  pub cell : CellSight
  pub seats : List SeatSight
