-- Networks that join and leave.
use Rattle.std.specs.Prelude.{◌≡◌, ◌<◌, ℕ, List, [], ◌∷◌, ◌++◌, insert, reverse, vec_len, vec_capacity}
use Rattle.pool_cell.specs.Sights.{CellSight}
use Rattle.pool_cell.specs.Sights.{SeatSight}
use Rattle.pool_workers.specs.declared.deal.SpareSeats.{SpareSeats}
use Rattle.pool_workers.specs.declared.host_state.HostState.{HostState}

-- nothing has changed: the networks, their seats and the queue are the same
pub record IsSameHostState {S H P : Type 0} (a b : (HostState S H P)) : Type 0 where
  pub numbers : b.shared.numbers.items ≡ a.shared.numbers.items
  pub cells : b.shared.cells.items ≡ a.shared.cells.items
  pub spares : b.spares.items ≡ a.spares.items
  pub queue : b.shared.queue ≡ a.shared.queue

-- there is room for one network more
pub record HasRoomForCell {S H P : Type 0} (f : (HostState S H P)) : Type 0 where
  pub numbers : vec_len f.shared.numbers < vec_capacity f.shared.numbers
  pub cells : vec_len f.shared.cells < vec_capacity f.shared.cells
  pub spares : vec_len f.spares < vec_capacity f.spares

-- a network stands at the place, and all else is as it was
pub record IsNetworkPut {S H P : Type 0} (a : (HostState S H P)) (place : ℕ) (c : CellSight) (seats : List SeatSight)
    (b : (HostState S H P)) : Type 0 where
  pub numbers : b.shared.numbers.items ≡ insert a.shared.numbers.items place c.config.number
  pub cells : b.shared.cells.items ≡ insert a.shared.cells.items place c
  pub spare : (SpareSeats S H P)
  pub own : spare.seats.items ≡ seats
  pub spares : b.spares.items ≡ insert a.spares.items place spare
  pub queue : b.shared.queue ≡ a.shared.queue

-- the networks stand the other way round
pub record IsTurned {S H P : Type 0} (a b : (HostState S H P)) : Type 0 where
  pub numbers : b.shared.numbers.items ≡ reverse a.shared.numbers.items
  pub cells : b.shared.cells.items ≡ reverse a.shared.cells.items
  pub spares : b.spares.items ≡ reverse a.spares.items
  pub queue : b.shared.queue ≡ a.shared.queue

-- the last network is gone, and all else is as it was
pub record IsRemoved {S H P : Type 0} (a : (HostState S H P)) (c : CellSight) (seats : List SeatSight)
    (b : (HostState S H P)) : Type 0 where
  pub number : ℕ
  pub numbers : a.shared.numbers.items ≡ b.shared.numbers.items ++ number ∷ []
  pub cells : a.shared.cells.items ≡ b.shared.cells.items ++ c ∷ []
  pub spare : (SpareSeats S H P)
  pub own : spare.seats.items ≡ seats
  pub spares : a.spares.items ≡ b.spares.items ++ spare ∷ []
  pub queue : b.shared.queue ≡ a.shared.queue
