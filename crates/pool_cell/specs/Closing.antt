-- One history of one thread, at the close.
use Rattle.std.specs.Prelude.{◌≡◌, ℕ, ◌<◌, ◌≤◌, ◌+◌, false, true, List, [], ◌∷◌, length, map, Some, slice_get}
use Rattle.std.specs.List.{All}
use mathlib.Core.List.{IsPrefix}
use Rattle.scp_spec.specs.Hosts.{Config}
use Rattle.host_journal.specs.Logs.{Log}
use Rattle.pool_cell.specs.Receipts.{extract_of, extracts_of}
use Rattle.pool_cell.specs.Rule.{IsKnownAtEnd, AllBelow, after_end}
use Rattle.pool_cell.specs.Sights.{SeatSight}
use Rattle.pool_cell.specs.Sounds.{IsSound, AllStand, AllRight}
use Rattle.pool_cell.specs.Views.{CellStateSight, Knowledge}

-- the test holds of each of these seats
abbrev pub AllSeats : (SeatSight → Type 0) → List SeatSight → Type 0
AllSeats P ss = All P ss

-- one of these seats has this number
abbrev pub HasNumber : List SeatSight → ℕ → Type 0
HasNumber seats k = (i : ℕ) × (s : SeatSight) × (slice_get seats i ≡ Some s) × (s.me.number ≡ k)

-- how many receipts they have
abbrev pub receipts_in : List SeatSight → ℕ
receipts_in [] = 0
receipts_in (s ∷ ss) = length s.me.receipts + receipts_in ss

-- what is seen of a seat that has ended, and is as it was
abbrev pub ended_sight : SeatSight → SeatSight
ended_sight s = record s { me = after_end s.me }

-- at the close: the cell state, and what is known of each seat by it
pub record Gathered (c : Config) (n : ℕ) (d : CellStateSight) (seats : List SeatSight) : Type 0 where
  pub owners : List ℕ
  pub stopper : ℕ
  pub config : d.log.config ≡ c
  pub paired : length owners ≡ length d.log.entries
  pub owned : AllBelow n owners
  pub within : d.stopped ≡ true → stopper < n
  pub end_known : AllSeats (λ s. IsKnownAtEnd c d.log.entries owners d.stopped stopper s.me × IsSound s.me × (s.me.config ≡ c)) seats

-- A journal is one history of its seats: each entry is one seat's, and each seat's receipts are its entries. What each
-- seat saw is a beginning, and it is all there is if the seat saw the mark. Each denial was right. A mark was set by
-- some seat. If no more seats are there than the cell has, there are as many entries as receipts.
pub record IsOneHistory (n : ℕ) (j : Log) (seats : List SeatSight) : Type 0 where
  pub owners : List ℕ
  pub paired : length owners ≡ length j.entries
  pub owned : AllBelow n owners
  pub present : (k : ℕ) → k < n → HasNumber seats k
  pub counted : length seats ≤ n → length j.entries ≡ receipts_in seats
  pub receipts : AllSeats (λ s. map extract_of s.me.receipts ≡ extracts_of j.config s.me.number owners j.entries) seats
  pub seen : AllSeats (λ s. IsPrefix s.me.seen j.entries) seats
  pub last : AllSeats (λ s. s.me.stopped ≡ true → s.me.seen ≡ j.entries) seats
  pub stand : AllSeats (λ s. AllStand j.config j.entries s.me.receipts) seats
  pub right : AllSeats (λ s. AllRight j.config j.entries s.me.stopped s.me.denials) seats
  pub stops : AllSeats (λ s. s.me.stopped ≡ true → (i : ℕ) × (t : SeatSight) × (slice_get seats i ≡ Some t) × (0 < t.me.stops)) seats

-- the closer has the cell state still
pub record CloserKeeps (before after : Knowledge) : Type 0 where
  pub holding : after.holding ≡ true
  pub live : after.live ≡ false
  pub known : after.known ≡ true
  pub opens : after.opens ≡ false
  pub config : after.config ≡ before.config
  pub all : after.all ≡ before.all
  pub owners : after.owners ≡ before.owners
  pub over : after.over ≡ before.over
  pub stopper : after.stopper ≡ before.stopper
