-- The networks of a host, and what a run makes of them.
use Rattle.std.specs.Prelude.{◌≡◌, ◌<◌, ◌≤◌, ◌+◌, ◌≢◌, nat_lt, ℕ, Bool, true, false, List, [], ◌∷◌, length, drop, map, reverse, if◌then◌else◌, None}
use Rattle.std.specs.List.{All, AllZip}
use Rattle.host_journal.specs.Logs.{Log}
use Rattle.pool_queue.specs.declared.rule.Job.{Job}
use Rattle.pool_queue.specs.Hands.{weigh}
use Rattle.pool_cell.specs.Sights.{CellSight}
use Rattle.pool_cell.specs.Receipts.{AppliedEvent}
use Rattle.pool_cell.specs.Views.{Denial}
use Rattle.pool_cell.specs.Closing.{IsOneHistory, ended_sight}
use Rattle.pool_cell.specs.Sights.{SeatSight}
use Rattle.pool_workers.specs.NetSights.{NetSight}
use Rattle.pool_workers.specs.Spares.{HaveAllSeats}
use Rattle.pool_workers.specs.Numbers.{IsNumbered}
use Rattle.pool_workers.specs.Sums.{AllGrown, applied_of, heard_of, refused_of}
use Rattle.pool_workers.specs.declared.deal.SpareSeats.{SpareSeats}
use Rattle.pool_workers.specs.declared.host_state.HostState.{HostState}
use Rattle.pool_workers.specs.declared.running.Report.{Report}

abbrev pub net_number : NetSight → ℕ
net_number n = n.cell.config.number

-- the networks of a host, by their cells and their seats
abbrev pub nets_of : {S H P : Type 0} → List CellSight → List (SpareSeats S H P) → List NetSight
nets_of [] bs = []
nets_of (c ∷ cs) [] = []
nets_of (c ∷ cs) (b ∷ bs) = record { cell = c; seats = b.seats.items } ∷ nets_of cs bs

-- what a host keeps: the cells in their order, with all seats, at most 4,096, and no queue
pub record IsHostState {S H P : Type 0} (f : (HostState S H P)) : Type 0 where
  pub numbered : IsNumbered f.shared.numbers.items f.shared.cells.items
  pub hosted : HaveAllSeats f.shared.cells.items f.spares.items
  pub few : length f.shared.cells.items ≤ 4096
  pub closed : f.shared.queue ≡ None

-- what a host keeps, with its lists turned around
pub record IsTurnedState {S H P : Type 0} (f : (HostState S H P)) : Type 0 where
  pub numbered : IsNumbered (reverse f.shared.numbers.items) (reverse f.shared.cells.items)
  pub hosted : HaveAllSeats (reverse f.shared.cells.items) (reverse f.spares.items)
  pub few : length f.shared.cells.items ≤ 4096
  pub closed : f.shared.queue ≡ None

-- what a host keeps, with its lists turned around, or not: the cells in their order, with all seats, at most 4,096, and
-- no queue
abbrev pub IsKeptState : {S H P : Type 0} → Bool → (HostState S H P) → Type 0
IsKeptState true f = IsTurnedState f
IsKeptState false f = IsHostState f

-- the networks of a host whose lists are turned around, or not
abbrev pub nets_in : {S H P : Type 0} → Bool → (HostState S H P) → List NetSight
nets_in true f = nets_of (reverse f.shared.cells.items) (reverse f.spares.items)
nets_in false f = nets_of f.shared.cells.items f.spares.items

-- the networks with one more, in the place of its number
abbrev pub nets_with : NetSight → List NetSight → List NetSight
nets_with n [] = n ∷ []
nets_with n (m ∷ ms) = if nat_lt (net_number m) (net_number n) then m ∷ nets_with n ms else n ∷ m ∷ ms

-- no network has this number
abbrev pub NoNet : List NetSight → ℕ → Type 0
NoNet [] number = Unit {0}
NoNet (n ∷ ns) number = (number ≢ net_number n) × NoNet ns number

-- each other network has a greater number than this one
abbrev pub IsLeastNumber : NetSight → List NetSight → Type 0
IsLeastNumber n [] = Unit {0}
IsLeastNumber n (m ∷ ms) = (net_number n < net_number m) × IsLeastNumber n ms

-- the journal of a network is one history of its seats
pub record IsClosedNet (n : NetSight) (j : Log) (ss : List SeatSight) : Type 0 where
  pub config : j.config ≡ n.cell.config
  pub seats : ss ≡ map ended_sight n.seats
  pub history : IsOneHistory n.cell.seats j ss

-- the receipts and denials that a seat gained
abbrev pub receipts_gained : SeatSight → SeatSight → List AppliedEvent
receipts_gained a b = drop (length a.me.receipts) b.me.receipts

abbrev pub denials_gained : SeatSight → SeatSight → List Denial
denials_gained a b = drop (length a.me.denials) b.me.denials

-- over all seats of all networks, before and after
abbrev pub over_seats : (SeatSight → SeatSight → ℕ) → List SeatSight → List SeatSight → ℕ
over_seats f [] bs = 0
over_seats f (a ∷ xs) [] = 0
over_seats f (a ∷ xs) (b ∷ ys) = f a b + over_seats f xs ys

abbrev pub over_nets : (SeatSight → SeatSight → ℕ) → List NetSight → List NetSight → ℕ
over_nets f [] bs = 0
over_nets f (a ∷ xs) [] = 0
over_nets f (a ∷ xs) (b ∷ ys) = over_seats f a.seats b.seats + over_nets f xs ys

-- the same networks with the same seats, which have gained receipts and denials
abbrev pub AllGrownNets : List NetSight → List NetSight → Type 0
AllGrownNets xs ys = AllZip (λ (a b : NetSight). (b.cell ≡ a.cell) × AllGrown a.seats b.seats) xs ys

abbrev pub AllElsewhere : List NetSight → List Job → Type 0
AllElsewhere nets js = All (λ (j : Job). NoNet nets j.network) js

-- the events of the receipts and denials that a seat gained, as jobs of its network, weighed
abbrev pub done_since : (Job → ℕ) → SeatSight → SeatSight → ℕ
done_since h a b = applied_of h a.me.config (receipts_gained a b) + refused_of h a.me.config (denials_gained a b)

-- the jobs that the receipts that a seat gained make others hear, weighed
abbrev pub heard_since : (Job → ℕ) → SeatSight → SeatSight → ℕ
heard_since h a b = heard_of h a.me.config (receipts_gained a b)

-- However jobs are weighed, two sums are the same. One is of the jobs that came in, and of one for each emission that
-- was gained and each other hosted node of its network. The other is of the jobs that went out, of the events gained as
-- receipts and as denials, and of the jobs of networks that are not here. The report counts the receipts as applied,
-- and the denials and the jobs of networks that are not here as refused. It counts no job as not run.
pub record AreJobsDone (xs ys : List NetSight) (came went : (Job → ℕ) → ℕ) (r : Report) : Type 0 where
  pub lacking : List Job
  pub elsewhere : AllElsewhere xs lacking
  pub sum : (h : Job → ℕ)
      → came h + over_nets (heard_since h) xs ys ≡ went h + over_nets (done_since h) xs ys + weigh h lacking
  pub applied : r.applied ≡ over_nets (λ a b. length (receipts_gained a b)) xs ys
  pub refused : r.refused ≡ over_nets (λ a b. length (denials_gained a b)) xs ys + length lacking
  pub unrun : r.unrun ≡ 0
