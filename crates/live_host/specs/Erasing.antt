-- A slot of a network is erased, and what was drawn by all that happened at it is taken off the budgets. All that
-- happens at other slots comes to the same.
use Rattle.std.specs.List.{AllByRecursion}
use Rattle.std.specs.Prelude.{◌⊎◌, ◌≡◌, ◌+◌, ◌-◌, ◌≤◌, ◌==◌, not, ℕ, Bool, true, false, List, [], ◌∷◌, filter, Option, Some, None, option_map, map, if◌then◌else◌}
use Rattle.scp_types.specs.declared.event.Out.{Out}
use Rattle.scp_types.specs.declared.event.Refusal.{Refusal}
use Rattle.scp_types.specs.declared.event.Refusal.TheVariants.{NoMemory}
use Rattle.scp_spec.specs.Hosts.{Config}
use Rattle.scp_spec.specs.Networks.{Net, instances_at, Reading, Slot, Step, net_step}
use Rattle.scp_spec.specs.Networks.Reading.{Fault, Read}
use Rattle.scp_spec.specs.Networks.Reply.{Done, Refused}
use Rattle.scp_spec.specs.Networks.Step.{BallotTimerFires, Closes, Delivers, Hears, NominationTimerFires, Opens, Proposes, Reslices}
use Rattle.scp_spec.specs.Rosters.{Draw, Roster}
use Rattle.live_network.specs.Serving.{Ending, IsServed, ToldReply}
use Rattle.live_network.specs.Serving.Ending.{IsDone, IsRefused}
use Rattle.host_config.specs.Configs.{names_of}
use Rattle.host_network.specs.Decoding.{reading}
use Rattle.host_network.specs.FiledSlots.{CountedSlot, slot_of}
use Rattle.host_network.specs.Standing.{IsStood, Machine, StandsFor}
use Rattle.live_network.specs.Telling.{IsServedBy, tellings_of}
use Rattle.live_network.specs.declared.served.Served.{Served}
use Rattle.live_feed.specs.declared.answering.Drawn.{Drawn}
use Rattle.line_script.specs.Script.{Bytes}
use Rattle.live_host.specs.Futures.{moved, moved_budgets, moved_config, moved_roster}
use Rattle.live_host.specs.Hosts.{AreServed, begun, drawn}
use Rattle.live_host.specs.declared.all.NodeAnswer.{NodeAnswer}

-- ---- what is drawn
-- what both come to
abbrev pub both_amounts : Drawn → Drawn → Drawn
both_amounts d e = record { events = d.events + e.events; bytes = d.bytes + e.bytes; opens = d.opens + e.opens }

-- what was drawn between two states of a network
abbrev pub drawn_in : Net → Net → Drawn
drawn_in net after = record {
  events = after.events - net.events;
  bytes = after.bytes - net.bytes;
  opens = after.opens - net.opens;
}

abbrev pub HasOpensFor : ℕ → Option Roster → Type 0
HasOpensFor n None = Unit {0}
HasOpensFor n (Some r) = n ≤ r.shares.opens

-- the network has room for so much more
pub record HasRoomForMore (d : Drawn) (net : Net) : Type 0 where
  pub events : net.events + d.events ≤ net.budgets.events
  pub bytes : net.bytes + d.bytes ≤ net.budgets.bytes
  pub opens : HasOpensFor (net.opens + d.opens) net.roster

-- ---- networks of which a slot is erased
-- all slots but that of a number
abbrev pub slots_but : ℕ → List Slot → List Slot
slots_but i slots = filter (λ s. not (s.number == i)) slots

-- what was drawn on the shares of all slots but one
abbrev pub draws_but : ℕ → List Draw → List Draw
draws_but i draws = filter (λ d. not (d.slot == i)) draws

-- The slot of a number is erased, at which so much was drawn (`lost`), and so much is still to be drawn (`rest`). What
-- is left has the other slots, and what was drawn on their shares. It counts less by what was drawn at the slot, and
-- its budgets are less by what is drawn there in all.
pub record IsErased (i : ℕ) (rest lost : Drawn) (net left : Net) : Type 0 where
  pub number : left.number ≡ net.number
  pub nodes : left.nodes ≡ net.nodes
  pub slots : left.slots ≡ slots_but i net.slots
  pub draws : draws_but i left.draws ≡ draws_but i net.draws
  pub budgets : net.budgets ≡ moved_budgets (both_amounts lost rest) left.budgets
  pub roster : net.roster ≡ option_map (moved_roster (both_amounts lost rest)) left.roster
  pub events : net.events ≡ left.events + lost.events
  pub bytes : net.bytes ≡ left.bytes + lost.bytes
  pub opens : net.opens ≡ left.opens + lost.opens

-- ---- steps
-- what was read is of the slot of a number; bytes that are no envelope are of none
abbrev pub is_reading_at : ℕ → Reading → Bool
is_reading_at i (Read e) = i == e.slot
is_reading_at i (Fault n) = false

-- the step is one at the slot of a number
abbrev pub is_step_at : ℕ → Step → Bool
is_step_at i (Opens j) = i == j
is_step_at i (Closes j) = i == j
is_step_at i (Proposes j u x) = i == j
is_step_at i (Delivers u size said) = is_reading_at i said
is_step_at i (Hears j u from kind k) = i == j
is_step_at i (NominationTimerFires j u r) = i == j
is_step_at i (BallotTimerFires j u n) = i == j
is_step_at i (Reslices j u q) = i == j

abbrev pub opens_slot : Step → Bool
opens_slot (Opens i) = true
opens_slot _ = false

-- A step at another slot that is done is also done if one slot is left out. There has to be room afterwards for all
-- that is still to be drawn.
abbrev pub ErasedNetsStepAlike : Type 0
ErasedNetsStepAlike =
    (i : ℕ) (rest lost : Drawn) (net left : Net) (e : Step) (os : List Out) → IsErased i rest lost net left
    → is_step_at i e ≡ false → (net_step net e).1 ≡ Done os → HasRoomForMore rest (net_step net e).0
    → ((net_step left e).1 ≡ Done os) × IsErased i rest lost (net_step net e).0 (net_step left e).0

-- A step at another slot that is refused is also refused if one slot is left out. The reason may be another. It is so
-- but for an opening, since there may be too many slots with this one.
abbrev pub ErasedNetsRefuseAlike : Type 0
ErasedNetsRefuseAlike =
    (i : ℕ) (rest lost : Drawn) (net left : Net) (e : Step) (r : Refusal) → IsErased i rest lost net left
    → is_step_at i e ≡ false → opens_slot e ≡ false → (net_step net e).1 ≡ Refused r
    → ((net_step net e).0 ≡ net) × ((other : Refusal) × (net_step left e ≡ (left, Refused other)))

-- A step at the slot changes nothing of what is left, and what it draws is drawn no more.
abbrev pub StepsThereAreErased : Type 0
StepsThereAreErased =
    (i : ℕ) (rest lost : Drawn) (net left : Net) (e : Step) → is_step_at i e ≡ true
    → IsErased i (both_amounts (drawn_in net (net_step net e).0) rest) lost net left
    → IsErased i rest (both_amounts lost (drawn_in net (net_step net e).0)) (net_step net e).0 left

-- ---- events that are served
-- the same is told; but what was refused because it was out of memory may be refused for another reason
pub data AreToldAs : List ToldReply → List ToldReply → Type 0 where
  none_told : AreToldAs [] []
  told_so : {ts ss : List ToldReply} (t : ToldReply) → AreToldAs ts ss → AreToldAs (t ∷ ts) (t ∷ ss)
  wanting_so : {ts ss : List ToldReply} (u : ℕ) (r : Refusal) → AreToldAs ts ss
      → AreToldAs (record { node = u; reply = Refused NoMemory } ∷ ts) (record { node = u; reply = Refused r } ∷ ss)

-- An event at another slot that is done, with all that the others hear, is also done if one slot is left out. There has
-- to be room afterwards for all that is still to be drawn.
abbrev pub ErasedNetsServeAlike : Type 0
ErasedNetsServeAlike =
    (i : ℕ) (rest lost : Drawn) (net left : Net) (e : Step) (stale : Bool) (told : List ToldReply) (after : Net)
    → IsErased i rest lost net left → is_step_at i e ≡ false → IsServed net e (IsDone stale) told after
    → HasRoomForMore rest after
    → (told_too : List ToldReply) × (after_too : Net) × AreToldAs told told_too × IsServed left e (IsDone stale) told_too after_too
    × IsErased i rest lost after after_too

-- An event at another slot that is refused is also refused if one slot is left out. The reason may be another. It is so
-- but for an opening.
abbrev pub ErasedNetsRefuseEventsAlike : Type 0
ErasedNetsRefuseEventsAlike =
    (i : ℕ) (rest lost : Drawn) (net left : Net) (e : Step) (r : Refusal) (told : List ToldReply) (after : Net)
    → IsErased i rest lost net left → is_step_at i e ≡ false → opens_slot e ≡ false → IsServed net e (IsRefused r) told after
    → (after ≡ net) × (told ≡ []) × ((other : Refusal) × IsServed left e (IsRefused other) [] left)

-- An event at the slot changes nothing of what is left, and what it draws is drawn no more.
abbrev pub EventsThereAreErased : Type 0
EventsThereAreErased =
    (i : ℕ) (rest lost : Drawn) (net left : Net) (e : Step) (ending : Ending) (told : List ToldReply) (after : Net)
    → is_step_at i e ≡ true → IsServed net e ending told after → IsErased i (both_amounts (drawn_in net after) rest) lost net left
    → IsErased i rest (both_amounts lost (drawn_in net after)) after left

-- ---- machines
-- all slots but that of a number, as the host keeps them
abbrev pub counted_slots_but : ℕ → List CountedSlot → List CountedSlot
counted_slots_but i slots = filter (λ s. not (s.number == i)) slots

-- the network has room for so much more
pub record HasRoomBy (d : Drawn) (m : Machine) : Type 0 where
  pub events : m.events + d.events ≤ m.config.budgets.events
  pub bytes : m.bytes + d.bytes ≤ m.config.budgets.bytes
  pub opens : HasOpensFor (m.opens + d.opens) m.config.roster

-- the slot of a number is erased, at which so much was drawn, and so much is still to be drawn
pub record IsErasedBy (i : ℕ) (rest lost : Drawn) (m left : Machine) : Type 0 where
  pub number : left.config.number ≡ m.config.number
  pub nodes : left.config.nodes ≡ m.config.nodes
  pub slots : left.slots ≡ counted_slots_but i m.slots
  pub budgets : m.config.budgets ≡ moved_budgets (both_amounts lost rest) left.config.budgets
  pub roster : m.config.roster ≡ option_map (moved_roster (both_amounts lost rest)) left.config.roster
  pub events : m.events ≡ left.events + lost.events
  pub bytes : m.bytes ≡ left.bytes + lost.bytes
  pub opens : m.opens ≡ left.opens + lost.opens

-- what a machine stands for the other one stands for
abbrev pub StandsAsWell : Machine → Machine → Type 0
StandsAsWell m n = (net : Net) → StandsFor m net → StandsFor n net

-- it was not refused because it was out of memory
abbrev pub IsEnough : ToldReply → Type 0
IsEnough t = t.reply ≡ Refused NoMemory → ⊥

pub record HadMemoryToServe (s : Served) : Type 0 where
  pub refused : s.refused ≡ Some NoMemory → ⊥
  pub told : AllByRecursion IsEnough (tellings_of s.told.items)

-- it is no opening that was refused
abbrev pub IsNoRefusedOpening : Step → Served → Type 0
IsNoRefusedOpening (Opens i) s = s.refused ≡ None
IsNoRefusedOpening _ s = Unit {0}

-- the same came of it, or it was refused for another reason, and not because it was out of memory
abbrev pub CameAs : Served → Served → Type 0
CameAs s t =
    (t ≡ s)
    ⊎ ((r : Refusal) × (other : Refusal) × (s.refused ≡ Some r) × (other ≡ NoMemory → ⊥)
    × (t ≡ record s { refused = Some other }))

-- An event at another slot comes to the same if one slot is left out. This is so if memory sufficed, and the event is
-- no opening that was refused. There has to be room afterwards for all that is still to be drawn.
abbrev pub ErasedMachinesServeAlike : Type 0
ErasedMachinesServeAlike =
    (i : ℕ) (rest lost : Drawn) (m left : Machine) (e : Step) (after : Machine) (s : Served)
    → IsStood m → IsErasedBy i rest lost m left → is_step_at i e ≡ false → IsServedBy m e after s
    → IsNoRefusedOpening e s → HadMemoryToServe s → HasRoomBy rest after
    → (after_too : Machine) × (t : Served) × IsStood after × IsErasedBy i rest lost after after_too × CameAs s t
    × IsServedBy left e after_too t

-- An event at the slot changes nothing of what is left. It may be kept in another way then, since what an event comes to
-- is told but for how counts are kept; it stands for all for which it stood.
abbrev pub MachineEventsThereAreErased : Type 0
MachineEventsThereAreErased =
    (i : ℕ) (rest lost : Drawn) (m left : Machine) (e : Step) (after : Machine) (s : Served)
    → IsStood m → is_step_at i e ≡ true → IsServedBy m e after s → IsErasedBy i (both_amounts (drawn m after) rest) lost m left
    → (left_too : Machine) × (left_too.config ≡ left.config) × IsStood after
    × IsErasedBy i rest (both_amounts lost (drawn m after)) after left_too × StandsAsWell left left_too

-- ---- bytes for all nodes
-- the same came of each, or it was refused for another reason
pub data CameAllAs : List NodeAnswer → List NodeAnswer → Type 0 where
  none_came : CameAllAs [] []
  next_came : {a b : NodeAnswer} {answers others : List NodeAnswer}
      → b.node ≡ a.node → CameAs a.served b.served → CameAllAs answers others → CameAllAs (a ∷ answers) (b ∷ others)

-- bytes of another slot that come to nodes come to the same if one slot is left out, memory sufficed and there is room
-- afterwards
abbrev pub ErasedMachinesServeAllAlike : Type 0
ErasedMachinesServeAllAlike =
    (i : ℕ) (rest lost : Drawn) (m left : Machine) (bytes : Bytes) (us : List ℕ) (answers : List NodeAnswer)
    (after : Machine) → IsStood m → IsErasedBy i rest lost m left → is_reading_at i (reading bytes) ≡ false
    → AreServed bytes us m answers after → AllByRecursion (λ a. HadMemoryToServe a.served) answers → HasRoomBy rest after
    → (after_too : Machine) × (answers_too : List NodeAnswer) × IsStood after × IsErasedBy i rest lost after after_too
    × CameAllAs answers answers_too × AreServed bytes us left answers_too after_too

-- bytes of the slot change nothing of what is left
abbrev pub AllMachineEventsThereAreErased : Type 0
AllMachineEventsThereAreErased =
    (i : ℕ) (rest lost : Drawn) (m left : Machine) (bytes : Bytes) (us : List ℕ) (answers : List NodeAnswer)
    (after : Machine) → IsStood m → is_reading_at i (reading bytes) ≡ true → AreServed bytes us m answers after
    → IsErasedBy i (both_amounts (drawn m after) rest) lost m left
    → (left_too : Machine) × (left_too.config ≡ left.config) × IsStood after
    × IsErasedBy i rest (both_amounts lost (drawn m after)) after left_too × StandsAsWell left left_too

-- ---- runs
-- a line that a network serves, with what came of it and how much it drew: an event, or bytes that come to each of its
-- nodes
pub data Line : Type 0 where
  OfEvent : Step → Served → Drawn → Line
  OfBytes : Bytes → List NodeAnswer → Drawn → Line

abbrev pub IsLine : Line → Machine → Machine → Type 0
IsLine (OfEvent e s d) m after = IsServedBy m e after s × (drawn m after ≡ d)
IsLine (OfBytes bytes answers d) m after =
    AreServed bytes (names_of m.config.nodes) m answers after × (drawn m after ≡ d)

-- lines are served, one after the other
pub data AreServedInTurn : Machine → List Line → Machine → Type 0 where
  ended : {m : Machine} → AreServedInTurn m [] m
  goes_on : {m now after : Machine} {lines : List Line} (l : Line)
      → IsLine l m now → AreServedInTurn now lines after → AreServedInTurn m (l ∷ lines) after

-- a line is one of the slot of a number
abbrev pub is_line_at : ℕ → Line → Bool
is_line_at i (OfEvent e s d) = is_step_at i e
is_line_at i (OfBytes bytes answers d) = is_reading_at i (reading bytes)

-- memory sufficed for a line, and it is no opening that was refused
abbrev pub IsLineErasable : Line → Type 0
IsLineErasable (OfEvent e s d) = IsNoRefusedOpening e s × HadMemoryToServe s
IsLineErasable (OfBytes bytes answers d) = AllByRecursion (λ a. HadMemoryToServe a.served) answers

abbrev pub none_drawn : Drawn
none_drawn = record { events = 0; bytes = 0; opens = 0 }

-- how much a line drew
abbrev pub drawn_by : Line → Drawn
drawn_by (OfEvent e s d) = d
drawn_by (OfBytes bytes answers d) = d

-- how much all lines of a slot drew
abbrev pub drawn_at_slot : ℕ → List Line → Drawn
drawn_at_slot i [] = none_drawn
drawn_at_slot i (l ∷ lines) = if is_line_at i l then both_amounts (drawn_by l) (drawn_at_slot i lines) else drawn_at_slot i lines

-- the same line, of which the same came, and which drew as much
abbrev pub IsSameLine : Line → Line → Type 0
IsSameLine (OfEvent e s d) (OfEvent f t c) = (f ≡ e) × CameAs s t × (c ≡ d)
IsSameLine (OfEvent e s d) (OfBytes bytes answers c) = ⊥
IsSameLine (OfBytes bytes answers d) (OfEvent e s c) = ⊥
IsSameLine (OfBytes bytes answers d) (OfBytes same others c) = (same ≡ bytes) × CameAllAs answers others × (c ≡ d)

-- the lines but those of a slot
pub data AreOthers (i : ℕ) : List Line → List Line → Type 0 where
  no_others : AreOthers i [] []
  one_there : {l : Line} {lines others : List Line}
      → is_line_at i l ≡ true → AreOthers i lines others → AreOthers i (l ∷ lines) others
  one_other : {l k : Line} {lines others : List Line}
      → is_line_at i l ≡ false → IsSameLine l k → AreOthers i lines others → AreOthers i (l ∷ lines) (k ∷ others)

-- The lines of a network lead from its beginning to a state in which the slot is not open. Take one of which less was
-- declared, by all that the lines of the slot drew. Then all lines but those of the slot lead from its beginning to the
-- same machine with so much less declared and used up. This is so if memory sufficed for these lines, and none is an
-- opening that was refused.
abbrev pub ClosedSlotsAreErased : Type 0
ClosedSlotsAreErased =
    (i : ℕ) (c : Config) (lines : List Line) (m : Machine) → AreServedInTurn (begun c) lines m
    → AllByRecursion (λ l. is_line_at i l ≡ false → IsLineErasable l) lines → instances_at (map slot_of m.slots) i ≡ None
    → (less : Config) × (others : List Line) × (left : Machine) × (c ≡ moved_config (drawn_at_slot i lines) less)
    × AreOthers i lines others × AreServedInTurn (begun less) others left × IsStood left × (m ≡ moved (drawn_at_slot i lines) left)
    × AllByRecursion IsLineErasable others

-- what lines of another slot drew they draw without those of the slot
abbrev pub OthersDrawAsMuch : Type 0
OthersDrawAsMuch =
    (i k : ℕ) (lines others : List Line) → (i == k) ≡ false → AreOthers i lines others → drawn_at_slot k others ≡ drawn_at_slot k lines

-- ---- several slots
-- these are all different
abbrev pub AreAllDifferent : List ℕ → Type 0
AreAllDifferent [] = Unit {0}
AreAllDifferent (i ∷ slots) = AllByRecursion (λ k. (i == k) ≡ false) slots × AreAllDifferent slots

-- the lines but those of these slots, which go one after the other
pub data AreOthersOf : List ℕ → List Line → List Line → Type 0 where
  no_slots : {lines : List Line} → AreOthersOf [] lines lines
  next_slot : {i : ℕ} {slots : List ℕ} {lines between others : List Line}
      → AreOthers i lines between → AreOthersOf slots between others → AreOthersOf (i ∷ slots) lines others

-- how much all lines of these slots drew
abbrev pub drawn_of : List ℕ → List Line → Drawn
drawn_of [] lines = none_drawn
drawn_of (i ∷ slots) lines = both_amounts (drawn_of slots lines) (drawn_at_slot i lines)

-- the lines of several slots may be left out, if none of them is open at the end
abbrev pub AllClosedSlotsAreErased : Type 0
AllClosedSlotsAreErased =
    (slots : List ℕ) (c : Config) (lines : List Line) (m : Machine) → AreAllDifferent slots → AreServedInTurn (begun c) lines m
    → AllByRecursion IsLineErasable lines → AllByRecursion (λ i. instances_at (map slot_of m.slots) i ≡ None) slots
    → (less : Config) × (others : List Line) × (left : Machine) × (c ≡ moved_config (drawn_of slots lines) less)
    × AreOthersOf slots lines others × AreServedInTurn (begun less) others left × IsStood left
    × (m ≡ moved (drawn_of slots lines) left)
