-- What each seat knows is right.
use Rattle.std.specs.Prelude.{◌≡◌, ◌⊎◌, ℕ, suc, ◌≤◌, Bool, true, false, List, [], ◌∷◌, ◌++◌, length, option_map, take, Option, Some, slice_get}
use Rattle.std.specs.List.{AllByRecursion}
use Rattle.scp_types.specs.declared.event.Event.{Event}
use Rattle.scp_types.specs.declared.event.Refusal.TheVariants.{NoMemory}
use Rattle.crossbeam_queue.specs.Passes.{Pass, view}
use Rattle.host_network.specs.Decoding.{step_of}
use Rattle.scp_spec.specs.Hosts.{Config, Entry}
use Rattle.scp_spec.specs.Runs.{refusal_of}
use Rattle.host_journal.specs.Logs.{MayWantMemory}
use Rattle.pool_cell.specs.declared.refusal.CellRefusal.{CellRefusal}
use Rattle.pool_cell.specs.declared.refusal.CellRefusal.TheVariants.{Closed, Network}
use Rattle.pool_cell.specs.Receipts.{AppliedEvent, extract, extract_of}
use Rattle.pool_cell.specs.Views.{Denial, CellStateSight, Knowledge}

-- the receipt is that of the entry at its number
abbrev pub Stands : Config → List Entry → AppliedEvent → Type 0
Stands config entries r =
    (e : Entry) × (slice_get entries r.number ≡ Some e) × (extract_of r ≡ extract config (take r.number entries) e)

-- the first refusal that applies to an event after these entries
abbrev pub refused_by : Config → List Entry → Event → Option CellRefusal
refused_by config entries event = option_map Network (refusal_of config entries (step_of event))

-- why an event is refused: it is the first refusal that applies, or there is the mark, or it is out of memory, if it
-- may be
abbrev pub IsWhy : Config → List Entry → Bool → Event → CellRefusal → Type 0
IsWhy config entries stopped event r =
    ((r ≡ Network NoMemory) × MayWantMemory config entries (step_of event)) ⊎ ((r ≡ Closed) × (stopped ≡ true))
    ⊎ (refused_by config entries event ≡ Some r)

-- the refusal was right after the entries of its number, and the mark is there if it says so
abbrev pub IsRight : Config → List Entry → Bool → Denial → Type 0
IsRight config entries stopped d =
    (d.length ≤ length entries) × IsWhy config (take d.length entries) stopped d.event d.refusal

abbrev pub AllStand : Config → List Entry → List AppliedEvent → Type 0
AllStand config entries rs = AllByRecursion (Stands config entries) rs

abbrev pub AllRight : Config → List Entry → Bool → List Denial → Type 0
AllRight config entries stopped ds = AllByRecursion (IsRight config entries stopped) ds

-- the numbers rise, from n on
abbrev pub RisesFrom : ℕ → List AppliedEvent → Type 0
RisesFrom n [] = Unit {0}
RisesFrom n (r ∷ rs) = (n ≤ r.number) × RisesFrom (suc r.number) rs

-- what a seat knows is sound: receipts stand in what was seen, at rising numbers, and denials were right
pub record IsSound (v : Knowledge) : Type 0 where
  pub stand : AllStand v.config v.seen v.receipts
  pub rising : RisesFrom 0 v.receipts
  pub right : AllRight v.config v.seen v.stopped v.denials

-- a seat that may act
pub record IsFree (v : Knowledge) : Type 0 where
  pub known : v.known ≡ true
  pub live : v.live ≡ true
  pub claims : v.claims ≡ false
  pub opens : v.opens ≡ false
  pub holding : v.holding ≡ false

-- a pass, a number and receipts that make a seat: these are the last of those that the pass knows
pub record IsSeat (p : Pass CellStateSight Knowledge) (n : ℕ) (rs : List AppliedEvent) : Type 0 where
  pub no_slot : p.me.1 ≡ []
  pub number : (view p).number ≡ n
  pub gone : List AppliedEvent
  pub receipts : (view p).receipts ≡ gone ++ rs
  pub free : IsFree (view p)
  pub sound : IsSound (view p)
