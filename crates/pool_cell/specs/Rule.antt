-- One history under the lock: what the cell state has, and what each seat knows of it.
use Rattle.std.specs.Prelude.{◌≡◌, ◌⊎◌, ℕ, suc, ◌<◌, ◌≤◌, Bool, true, false, List, [], ◌∷◌, ◌++◌, length, map}
use Rattle.std.specs.List.{All}
use mathlib.Core.Option.{some}
use mathlib.Core.List.{IsPrefix}
use lib.ListN.{get_elem?}
use Rattle.scp_types.specs.declared.event.Event.{Event}
use Rattle.scp_spec.specs.Hosts.{Config, Entry}
use Rattle.pool_cell.specs.declared.refusal.CellRefusal.{CellRefusal}
use Rattle.pool_cell.specs.Receipts.{AppliedEvent, extract_of, extracts_of, receipt_entry}
use Rattle.pool_cell.specs.Views.{Denial, CellStateSight, Knowledge, nothing_known}

-- what the pass knows with which a lock begins
abbrev pub opener : Knowledge
opener = record nothing_known { opening = true }

-- once the cell state is there, it makes the seats
abbrev pub after_opening : Config → ℕ → Knowledge
after_opening config seats = record nothing_known { opens = true; known = true; config = config; seats = seats }

-- what the pass that makes seats knows once it has made one more
abbrev pub one_more : Knowledge → Knowledge
one_more v = record v { made = suc v.made }

abbrev pub new_seat : Config → ℕ → ℕ → Knowledge
new_seat config seats number = record nothing_known { known = true; live = true; config = config; seats = seats; number = number }

-- what the next seat knows that is made
abbrev pub seat_of : Knowledge → Knowledge
seat_of v = new_seat v.config v.seats v.made

-- what a seat knows that has ended
abbrev pub after_end : Knowledge → Knowledge
after_end v = record v { closed = true }

-- what the note of an ended seat knows
abbrev pub note_of : Knowledge → Knowledge
note_of v = record v { live = false; claims = true; closed = true }

-- what the pass knows that closes a cell
abbrev pub closer_of : Knowledge → Knowledge
closer_of v = record nothing_known { known = true; config = v.config; seats = v.seats }

-- what the closer knows with a note
abbrev pub with_note : Knowledge → Knowledge → Knowledge
with_note v w = record v {
  claims = w.claims;
  closed = w.closed;
  number = w.number;
  seen = w.seen;
  stopped = w.stopped;
  receipts = w.receipts;
  denials = w.denials;
  stops = w.stops;
}

-- the cell state with these entries and this mark
abbrev pub cell_state_at : Config → ℕ → List Entry → Bool → CellStateSight
cell_state_at config seats entries over =
    record { log = record { config = config; entries = entries }; stopped = over; seats = seats }

-- each of these numbers of seats is below n
abbrev pub AllBelow : ℕ → List ℕ → Type 0
AllBelow n os = All (λ o. o < n) os

-- what was done, and who did it
pub record CellHistory : Type 0 where
  pub config : Config
  pub seats : ℕ
  pub entries : List Entry
  pub owners : List ℕ
  pub over : Bool
  pub stopper : ℕ
  pub made : ℕ
  pub ended : ℕ → Bool

pub record World : Type 0 where
  pub past : CellHistory
  pub home : ℕ → ℕ
  pub free : Bool
  pub holder : ℕ
  pub opener : ℕ

-- what a seat's own view, or a note of it, says of the seat
pub record Claims (h : CellHistory) (v : Knowledge) : Type 0 where
  pub made : v.number < h.made
  pub seen : IsPrefix v.seen h.entries
  -- who saw the mark saw all there is, and nothing is added to it
  pub stopped : v.stopped ≡ true → (h.over ≡ true) × (v.seen ≡ h.entries)
  pub receipts : map extract_of v.receipts ≡ extracts_of h.config v.number h.owners h.entries
  pub stops : h.over ≡ true → v.number ≡ h.stopper → 0 < v.stops
  pub ended : v.closed ≡ h.ended v.number

-- what the one who has the cell state knows
pub record Has (g : World) (id : ℕ) (v : Knowledge) : Type 0 where
  pub free : g.free ≡ false
  pub holder : id ≡ g.holder
  pub all : v.all ≡ g.past.entries
  pub owners : v.owners ≡ g.past.owners
  pub over : v.over ≡ g.past.over
  pub stopper : v.stopper ≡ g.past.stopper

pub record FitsWorld (g : World) (id : ℕ) (v : Knowledge) : Type 0 where
  pub opening : v.opening ≡ false
  pub opens : v.opens ≡ true → (id ≡ g.opener) × (v.made ≡ g.past.made)
  pub known : v.known ≡ true → (v.config ≡ g.past.config) × (v.seats ≡ g.past.seats)
  pub live : v.live ≡ true → (id ≡ g.home v.number) × Claims g.past v
  pub claims : v.claims ≡ true → (v.closed ≡ true) × Claims g.past v
  pub holding : v.holding ≡ true → Has g id v

abbrev pub AllFit : World → List Knowledge → Type 0
AllFit g views = (id : ℕ) (v : Knowledge) → get_elem? views id ≡ some v → FitsWorld g id v

pub record IsOpen (g : World) (items : List CellStateSight) (views : List Knowledge) : Type 0 where
  pub there : g.free ≡ true → items ≡ cell_state_at g.past.config g.past.seats g.past.entries g.past.over ∷ []
  pub away : g.free ≡ false → items ≡ []
  pub paired : length g.past.owners ≡ length g.past.entries
  pub owned : AllBelow g.past.made g.past.owners
  pub stopper : g.past.over ≡ true → g.past.stopper < g.past.made
  pub made : g.past.made ≤ g.past.seats
  pub fit : AllFit g views

-- the rule of a cell's lock: before the cell state is there, or after; then all passes fit one history
abbrev pub Holds : List CellStateSight → List Knowledge → Type 0
Holds items views = ((items ≡ []) × (views ≡ opener ∷ [])) ⊎ ((g : World) × IsOpen g items views)

-- the cell state is not in its place: somebody has it
abbrev pub IsEmpty : List CellStateSight → Type 0
IsEmpty items = items ≡ []

-- what the one who took the cell state knows from now on
abbrev pub after_taking : Knowledge → List Entry → Bool → List ℕ → ℕ → Knowledge
after_taking v all over owners stopper =
    record v { holding = true; all = all; over = over; owners = owners; stopper = stopper }

-- the cell state was taken: what its taker knows from now on, which begins with all that it had seen
pub record IsStateTaken (v : Knowledge) (x : CellStateSight) (w : Knowledge) : Type 0 where
  pub config : x.log.config ≡ v.config
  pub seats : x.seats ≡ v.seats
  pub now : w ≡ after_taking v x.log.entries x.stopped w.owners w.stopper
  pub paired : length w.owners ≡ length w.all
  pub owned : AllBelow v.seats w.owners
  pub stopper : w.over ≡ true → w.stopper < v.seats
  pub seen : v.live ≡ true → IsPrefix v.seen w.all
  pub stopped : v.live ≡ true → v.stopped ≡ true → w.over ≡ true

-- what is known of a seat at the end, by the cell state
pub record IsKnownAtEnd (config : Config) (entries : List Entry) (owners : List ℕ) (over : Bool) (stopper : ℕ)
    (v : Knowledge) : Type 0 where
  pub seen : IsPrefix v.seen entries
  pub stopped : v.stopped ≡ true → (over ≡ true) × (v.seen ≡ entries)
  pub receipts : map extract_of v.receipts ≡ extracts_of config v.number owners entries
  pub stops : over ≡ true → v.number ≡ stopper → 0 < v.stops

-- the cell state that the closer has agrees with its note
abbrev pub Agrees : Knowledge → Type 0
Agrees v = IsKnownAtEnd v.config v.all v.owners v.over v.stopper v

-- what a seat knows after an event was applied
abbrev pub after_application : Knowledge → AppliedEvent → Knowledge
after_application v r =
    record v { holding = false; seen = v.all ++ receipt_entry r ∷ []; stopped = v.over; receipts = v.receipts ++ r ∷ [] }

abbrev pub denial : Event → CellRefusal → ℕ → Denial
denial event refusal n = record { event = event; refusal = refusal; length = n }

-- what a seat knows after an event was refused
abbrev pub after_denial : Knowledge → Event → CellRefusal → Knowledge
after_denial v event refusal = record v {
  holding = false;
  seen = v.all;
  stopped = v.over;
  denials = v.denials ++ denial event refusal (length v.all) ∷ [];
}

-- nothing is done, and all is seen
abbrev pub after_look : Knowledge → Knowledge
after_look v = record v { holding = false; seen = v.all; stopped = v.over }

abbrev pub after_stop : Knowledge → Knowledge
after_stop v = record v { holding = false; seen = v.all; stopped = true; stops = suc v.stops }

-- a seat that has the cell state
pub record HasCellState (v : Knowledge) : Type 0 where
  pub known : v.known ≡ true
  pub live : v.live ≡ true
  pub claims : v.claims ≡ false
  pub opens : v.opens ≡ false
  pub closed : v.closed ≡ false
  pub holding : v.holding ≡ true
