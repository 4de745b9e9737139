-- A network that is run by one seat.
use Rattle.std.specs.Prelude.{◌≡◌, List, [], ◌∷◌}
use Rattle.pool_queue.specs.declared.rule.Job.{Job}
use Rattle.pool_queue.specs.Hands.{weigh}
use Rattle.pool_cell.specs.Cells.{IsSeatOf}
use Rattle.pool_cell.specs.Sights.{CellSight, SeatSight}
use Rattle.pool_workers.specs.Nets.{AreJobsDone}
use Rattle.pool_workers.specs.Sums.{AllGrown}
use Rattle.pool_workers.specs.declared.running.Report.{Report}

-- these are one seat, of this cell
abbrev pub HasOneSeat : CellSight → List SeatSight → Type 0
HasOneSeat c seats = (s : SeatSight) × (seats ≡ s ∷ []) × IsSeatOf c s

-- The jobs were done at this cell, and what follows from them: its seats have gained receipts and denials, and the sums
-- of a run are kept.
pub record IsRunAlone (c : CellSight) (old new : List SeatSight) (jobs : List Job) (r : Report) : Type 0 where
  pub grown : AllGrown old new
  pub done : AreJobsDone (record { cell = c; seats = old } ∷ []) (record { cell = c; seats = new } ∷ []) (λ h. weigh h jobs)
      (λ h. 0) r
