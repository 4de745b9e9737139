-- What a network counts, by its journal. A refusal for lack of room says what is used up, and what is applied found
-- room.
use Rattle.scp_types.specs.declared.event.Refusal.{Refusal}
use Rattle.scp_types.specs.declared.event.Refusal.TheVariants.{TooManySlots, JournalFull, BytesFull, ShareFull, ShareBytesFull}
use Rattle.std.specs.Prelude.{◌≡◌, ℕ, ◌<◌, ◌≤◌, ◌+◌, Bool, true, false, ◌&&◌, ◌==◌, length, List, [], ◌∷◌, ◌++◌, Some, None, filter, fold, sum_by, if◌then◌else◌}
use Rattle.scp_spec.specs.Rosters.{Roster, Share, Source, same_share, events_drawn, bytes_drawn, events_of}
use Rattle.scp_spec.specs.Rosters.Source.{OfBudgets, OfOpens, OfShare}
use Rattle.scp_spec.specs.Networks.{Net, Step, source, size_of, on_budgets, on_opens, first_that, tests, net_step}
use Rattle.scp_spec.specs.Networks.Step.{Opens, Closes, Proposes, Delivers, Hears, NominationTimerFires, BallotTimerFires, Reslices}
use Rattle.scp_spec.specs.Hosts.{Config, Entry}
use Rattle.scp_spec.specs.Runs.{IsRun, state_of}

-- ---- what a journal draws
abbrev pub is_of_budgets : Source → Bool
is_of_budgets OfBudgets = true
is_of_budgets (OfOpens shares) = false
is_of_budgets (OfShare shares i s) = false

abbrev pub is_of_opens : Source → Bool
is_of_opens OfBudgets = false
is_of_opens (OfOpens shares) = true
is_of_opens (OfShare shares i s) = false

-- it is this share of the slot
abbrev pub is_of_share : ℕ → Share → Source → Bool
is_of_share i s OfBudgets = false
is_of_share i s (OfOpens shares) = false
is_of_share i s (OfShare shares j t) = (j == i) && same_share t s

-- the entries whose source passes the test
abbrev pub drawing_entries : Config → (Source → Bool) → List Entry → List Entry
drawing_entries config test xs = filter (λ x. test (source config.roster x.event)) xs

-- how many delivered bytes they have
abbrev pub bytes_in : List Entry → ℕ
bytes_in xs = sum_by (λ x. size_of x.event) xs

-- the step opens the slot
abbrev pub is_opening : ℕ → Step → Bool
is_opening i (Opens j) = j == i
is_opening i _ = false

-- the entries since the slot was last opened
abbrev pub since_opened : ℕ → List Entry → List Entry
since_opened i xs = fold (λ since x. if is_opening i x.event then [] else since ++ x ∷ []) [] xs

-- A network counts what its journal drew. On the budgets, and on openings and closings, it counts over its life; on a
-- share, since its slot was last opened.
pub record IsCountOf (config : Config) (xs : List Entry) (net : Net) : Type 0 where
  pub events : net.events ≡ length (drawing_entries config is_of_budgets xs)
  pub bytes : net.bytes ≡ bytes_in (drawing_entries config is_of_budgets xs)
  pub opens : net.opens ≡ length (drawing_entries config is_of_opens xs)
  pub share_events : (i : ℕ) (s : Share)
      → events_drawn i s net.draws ≡ length (drawing_entries config (is_of_share i s) (since_opened i xs))
  pub share_bytes : (i : ℕ) (s : Share)
      → bytes_drawn i s net.draws ≡ bytes_in (drawing_entries config (is_of_share i s) (since_opened i xs))

-- what a network counts after a run is what its journal says
abbrev pub RunsAreCounted : Type 0
RunsAreCounted = (config : Config) (xs : List Entry) → IsRun config xs → IsCountOf config xs (state_of config xs)

-- ---- refused for lack of room, or applied with room
-- the events of a source are used up
abbrev pub IsUsedUp : Net → Source → Type 0
IsUsedUp net OfBudgets = net.budgets.events ≤ net.events
IsUsedUp net (OfOpens shares) = shares.opens ≤ net.opens
IsUsedUp net (OfShare shares i s) = events_of shares s ≤ events_drawn i s net.draws

-- the source is a share, and `size` more bytes would exceed what it has
abbrev pub ExceedsShare : Net → Source → ℕ → Type 0
ExceedsShare net OfBudgets size = ⊥
ExceedsShare net (OfOpens shares) size = ⊥
ExceedsShare net (OfShare shares i s) size = shares.bytes < bytes_drawn i s net.draws + size

-- what a refusal for lack of room says of the network and of what the step draws on; other refusals say nothing
abbrev pub IsMet : Net → Source → ℕ → Refusal → Type 0
IsMet net s size TooManySlots = net.budgets.slots ≤ length net.slots
IsMet net s size JournalFull = (s ≡ OfBudgets) × IsUsedUp net s
IsMet net s size BytesFull = (s ≡ OfBudgets) × (net.budgets.bytes < net.bytes + size)
IsMet net s size ShareFull = (is_of_budgets s ≡ false) × IsUsedUp net s
IsMet net s size ShareBytesFull = ExceedsShare net s size
IsMet net s size _ = Unit {0}

-- if a step is refused for lack of room, the limit that the refusal names is met
abbrev pub RefusedWhereMet : Type 0
RefusedWhereMet = (net : Net) (e : Step) (n : Refusal) → first_that (tests net e) ≡ Some n
    → IsMet net (source net.roster e) (size_of e) n

-- the source has room for one more event
abbrev pub HasRoomForEvents : Net → Source → Type 0
HasRoomForEvents net OfBudgets = net.events < net.budgets.events
HasRoomForEvents net (OfOpens shares) = net.opens < shares.opens
HasRoomForEvents net (OfShare shares i s) = events_drawn i s net.draws < events_of shares s

-- the source has room for `size` more bytes; openings and closings need none
abbrev pub HasRoomForBytes : Net → Source → ℕ → Type 0
HasRoomForBytes net OfBudgets size = net.bytes + size ≤ net.budgets.bytes
HasRoomForBytes net (OfOpens shares) size = Unit {0}
HasRoomForBytes net (OfShare shares i s) size = bytes_drawn i s net.draws + size ≤ shares.bytes

-- the step finds room: for one more event, for its bytes and for the slot that it opens
abbrev pub HasRoom : Net → Step → Type 0
HasRoom net (Opens i) = (length net.slots < net.budgets.slots) × HasRoomForEvents net (source net.roster (Opens i))
HasRoom net (Closes i) = HasRoomForEvents net (source net.roster (Closes i))
HasRoom net (Proposes i u x) = HasRoomForEvents net (source net.roster (Proposes i u x))
HasRoom net (Delivers u size d) =
    HasRoomForEvents net (source net.roster (Delivers u size d))
    × HasRoomForBytes net (source net.roster (Delivers u size d)) size
HasRoom net (Hears i u from kind k) = HasRoomForEvents net (source net.roster (Hears i u from kind k))
HasRoom net (NominationTimerFires i u r) = HasRoomForEvents net (source net.roster (NominationTimerFires i u r))
HasRoom net (BallotTimerFires i u n) = HasRoomForEvents net (source net.roster (BallotTimerFires i u n))
HasRoom net (Reslices i u q) = HasRoomForEvents net (source net.roster (Reslices i u q))

-- a step that no test refuses finds room
abbrev pub AppliedWhereRoom : Type 0
AppliedWhereRoom = (net : Net) (e : Step) → first_that (tests net e) ≡ None → HasRoom net e

-- ---- one step more, and what never is exceeded
-- what an applied step makes of the counts: a share is renewed by each opening of its slot
pub record IsCountedAfter (net : Net) (e : Step) (next : Net) : Type 0 where
  pub events : next.events ≡ net.events + on_budgets (source net.roster e) 1
  pub bytes : next.bytes ≡ net.bytes + on_budgets (source net.roster e) (size_of e)
  pub opens : next.opens ≡ net.opens + on_opens (source net.roster e)
  pub renewed : (i : ℕ) (s : Share) → is_opening i e ≡ true
      → (events_drawn i s next.draws ≡ 0) × (bytes_drawn i s next.draws ≡ 0)
  pub share_events : (i : ℕ) (s : Share) → is_opening i e ≡ false
      → events_drawn i s next.draws
      ≡ events_drawn i s net.draws + (if is_of_share i s (source net.roster e) then 1 else 0)
  pub share_bytes : (i : ℕ) (s : Share) → is_opening i e ≡ false
      → bytes_drawn i s next.draws
      ≡ bytes_drawn i s net.draws + (if is_of_share i s (source net.roster e) then size_of e else 0)

-- a step that is applied is counted on what it draws on, and nowhere else
abbrev pub StepsAreCounted : Type 0
StepsAreCounted = (net : Net) (e : Step) → first_that (tests net e) ≡ None → IsCountedAfter net e (net_step net e).0

-- no more is drawn than there is, and no more slots are open than may be
pub record IsInRoom (config : Config) (net : Net) : Type 0 where
  pub slots : length net.slots ≤ config.budgets.slots
  pub events : net.events ≤ config.budgets.events
  pub bytes : net.bytes ≤ config.budgets.bytes
  pub opens : (r : Roster) → config.roster ≡ Some r → net.opens ≤ r.shares.opens
  pub share_events : (r : Roster) → config.roster ≡ Some r → (i : ℕ) (s : Share)
      → events_drawn i s net.draws ≤ events_of r.shares s
  pub share_bytes : (r : Roster) → config.roster ≡ Some r → (i : ℕ) (s : Share)
      → bytes_drawn i s net.draws ≤ r.shares.bytes

-- no more is drawn than there is, after any steps, refused ones too
abbrev pub StaysInRoom : Type 0
StaysInRoom = (config : Config) (xs : List Entry) → IsInRoom config (state_of config xs)
