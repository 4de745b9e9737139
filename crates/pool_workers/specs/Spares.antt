-- Seats dealt to workers, and given back.
use Rattle.std.specs.Prelude.{◌≡◌, ◌≤◌, ◌<◌, ◌+◌, ℕ, List, [], ◌∷◌, ◌++◌, length, vec_capacity, Option}
use Rattle.std.specs.List.{All, AllZip}
use Rattle.crossbeam_queue.specs.Passes.{Pass}
use Rattle.pool_queue.specs.declared.rule.Job.{Job}
use Rattle.pool_queue.specs.declared.rule.Hand.{Hand}
use Rattle.pool_queue.specs.Hands.{weigh}
use Rattle.pool_queue.specs.declared.line.Queue.{Queue}
use Rattle.pool_queue.specs.Queues.{put_by, taken_by, parts_by}
use Rattle.pool_cell.specs.Sights.{CellSight}
use Rattle.pool_cell.specs.Cells.{IsSeatOf}
use Rattle.pool_cell.specs.Closing.{AllSeats, HasNumber}
use Rattle.pool_cell.specs.Sights.{SeatSight}
use Rattle.pool_workers.specs.Numbers.{AllLack}
use Rattle.pool_cell.specs.Views.{Knowledge}
use Rattle.pool_workers.specs.Sums.{AllGrown, AllPassing, applied_count, refused_count, seat_done, seat_heard, seat_applied, seat_refused, IsPassing, parts_of, weight_put, weight_taken}
use Rattle.pool_workers.specs.declared.deal.SpareSeats.{SpareSeats}
use Rattle.pool_workers.specs.declared.deal.WorkerRoom.{WorkerRoom}
use Rattle.pool_workers.specs.declared.deal.Room.{Room}
use Rattle.pool_workers.specs.declared.running.Report.{Report}
use Rattle.pool_workers.specs.declared.worker.Worker.{Worker}

-- each cell has at least N spare seats
abbrev pub HaveSpareSeats : {S H P : Type 0} → ℕ → List (SpareSeats S H P) → Type 0
HaveSpareSeats n bs = All (λ (b : SpareSeats _ _ _). n ≤ length b.seats.items) bs

-- there is room for one more behind the spare seats of each cell
abbrev pub AllRoomy : {S H P : Type 0} → List (SpareSeats S H P) → Type 0
AllRoomy bs = All (λ (b : SpareSeats _ _ _). length b.seats.items < vec_capacity b.seats) bs

-- an empty room for this many seats
abbrev pub IsBlank : {S H P : Type 0} → ℕ → (Room S H P) → Type 0
IsBlank n r = (r.seats.items ≡ []) × (n ≤ vec_capacity r.seats)

abbrev pub AllBlank : {S H P : Type 0} → ℕ → List (Room S H P) → Type 0
AllBlank n rs = All (IsBlank n) rs

-- rooms for this many workers at this many cells
pub record IsWorkerRoom {S H P : Type 0} (workers cells : ℕ) (c : (WorkerRoom S H P)) : Type 0 where
  pub many : length c.rooms.items ≡ workers
  pub blank : AllBlank cells c.rooms.items
  pub none : c.workers.items ≡ []
  pub room : workers ≤ vec_capacity c.workers

-- the last spare seat of a cell was dealt, and has let go of all its receipts
pub record IsDealtSeat {S H P : Type 0} (a : (SpareSeats S H P)) (s : SeatSight) (b : (SpareSeats S H P)) : Type 0 where
  pub spare : SeatSight
  pub seats : a.seats.items ≡ b.seats.items ++ spare ∷ []
  pub past : s ≡ record spare { let_go = length spare.me.receipts }
  pub capacity : vec_capacity b.seats ≡ vec_capacity a.seats
  pub room : length b.seats.items < vec_capacity b.seats

-- of each cell the last spare seat was dealt
abbrev pub AreSparesDealt : {S H P : Type 0} → List (SpareSeats S H P) → List SeatSight → List (SpareSeats S H P) → Type 0
AreSparesDealt [] [] [] = Unit {0}
AreSparesDealt [] [] (b ∷ bs) = ⊥
AreSparesDealt [] (s ∷ ss) bs = ⊥
AreSparesDealt (a ∷ xs) [] bs = ⊥
AreSparesDealt (a ∷ xs) (s ∷ ss) [] = ⊥
AreSparesDealt (a ∷ xs) (s ∷ ss) (b ∷ ys) = IsDealtSeat a s b × AreSparesDealt xs ss ys

-- one worker after another was dealt a seat at each cell
abbrev pub IsDealtAll : {S H P : Type 0} → List (SpareSeats S H P) → List (Worker S H P) → List (SpareSeats S H P)
    → Type 0
IsDealtAll before [] after = after ≡ before
IsDealtAll before (w ∷ ws) after =
    (mid : List (SpareSeats _ _ _)) × AreSparesDealt before w.seats.items mid × IsDealtAll mid ws after

-- a seat is the last of the spare ones
pub record IsGivenSeat {S H P : Type 0} (a : (SpareSeats S H P)) (s : SeatSight) (b : (SpareSeats S H P)) : Type 0 where
  pub seats : b.seats.items ≡ a.seats.items ++ s ∷ []
  pub capacity : vec_capacity b.seats ≡ vec_capacity a.seats

-- each seat was given back, as the last spare one of its cell
abbrev pub AreSeatsGivenBack : {S H P : Type 0} → List (SpareSeats S H P) → List SeatSight → List (SpareSeats S H P) → Type 0
AreSeatsGivenBack [] [] [] = Unit {0}
AreSeatsGivenBack [] [] (b ∷ bs) = ⊥
AreSeatsGivenBack [] (s ∷ ss) bs = ⊥
AreSeatsGivenBack (a ∷ xs) [] bs = ⊥
AreSeatsGivenBack (a ∷ xs) (s ∷ ss) [] = ⊥
AreSeatsGivenBack (a ∷ xs) (s ∷ ss) (b ∷ ys) = IsGivenSeat a s b × AreSeatsGivenBack xs ss ys

-- no worker has counted anything yet
abbrev pub NoneHasCounted : {S H P : Type 0} → List (Worker S H P) → Type 0
NoneHasCounted ws = All (λ (w : Worker _ _ _). (w.applied ≡ 0) × (w.refused ≡ 0)) ws

-- each worker's pass is of this queue
abbrev pub AllHold : {S H P : Type 0} → Option Queue → List (Worker S H P) → Type 0
AllHold q ws = All (λ (w : Worker _ _ _). IsPassing q w.pass) ws

-- the passes are parted: some are the workers', and the others are left
pub record IsSplit {S H P : Type 0} (before : List (Pass Job Hand)) (ws : List (Worker S H P))
    (after : List (Pass Job Hand)) : Type 0 where
  pub passing : (q : Option Queue) → AllPassing q before → AllPassing q after × AllHold q ws
  pub put_all : (h : Job → ℕ) → put_by h before ≡ put_by h after + weigh (weight_put h) ws
  pub taken_all : (h : Job → ℕ) → taken_by h before ≡ taken_by h after + weigh (weight_taken h) ws
  pub parts_all : parts_by before ≡ parts_by after + weigh parts_of ws

-- the spare seats have gained receipts and denials, and there is as much room as before
abbrev pub AllGrownSpares : {S H P : Type 0} → List (SpareSeats S H P) → List (SpareSeats S H P) → Type 0
AllGrownSpares xs ys =
    AllZip (λ (a b : SpareSeats _ _ _). AllGrown a.seats.items b.seats.items × (vec_capacity b.seats ≡ vec_capacity a.seats)) xs ys

-- all seats of the cell are there, and no others
pub record HasAllSeats (c : CellSight) (seats : List SeatSight) : Type 0 where
  pub own : AllSeats (IsSeatOf c) seats
  pub some : 0 < c.seats
  pub all : (k : ℕ) → k < c.seats → HasNumber seats k

-- all seats of each cell are there, and no others
abbrev pub HaveAllSeats : {S H P : Type 0} → List CellSight → List (SpareSeats S H P) → Type 0
HaveAllSeats cs bs = AllZip (λ (c : CellSight) (b : SpareSeats _ _ _). HasAllSeats c b.seats.items) cs bs

-- all spare seats, weighed
abbrev pub on_spares : {S H P : Type 0} → (Knowledge → ℕ) → List (SpareSeats S H P) → ℕ
on_spares f bs = weigh (λ (b : (SpareSeats _ _ _)). weigh (λ (s : SeatSight). f s.me) b.seats.items) bs

-- the seats of all workers, weighed
abbrev pub at_work : {S H P : Type 0} → (Knowledge → ℕ) → List (Worker S H P) → ℕ
at_work f ws = weigh (λ (w : (Worker _ _ _)). weigh (λ (s : SeatSight). f s.me) w.seats.items) ws

-- a report has what the workers counted
pub record IsCounted {S H P : Type 0} (ws : List (Worker S H P)) (r : Report) : Type 0 where
  pub applied : r.applied ≡ weigh applied_count ws
  pub refused : r.refused ≡ weigh refused_count ws
  pub unrun : r.unrun ≡ 0

-- the sum of the seats before and after: what came in and what they were made to hear is what they did, what went out,
-- and what lies elsewhere
pub record IsWorked {S H P : Type 0} (cells : List CellSight) (xs ys : List (SpareSeats S H P))
    (came went : (Job → ℕ) → ℕ) (r : Report) : Type 0 where
  pub lacking : List Job
  pub elsewhere : AllLack cells lacking
  pub sum : (h : Job → ℕ)
      → came h + on_spares (seat_done h) xs + on_spares (seat_heard h) ys
      ≡ went h + on_spares (seat_done h) ys + on_spares (seat_heard h) xs + weigh h lacking
  pub applied : r.applied + on_spares seat_applied xs ≡ on_spares seat_applied ys
  pub refused : r.refused + on_spares seat_refused xs ≡ on_spares seat_refused ys + length lacking
  pub unrun : r.unrun ≡ 0
