-- The lines of a slot that is closed at the end may be left out of a run.
use Rattle.std.specs.List.{AllByRecursion}
use Rattle.std.specs.Prelude.{◌≡◌, ◌⊎◌, ◌+◌, ◌-◌, ◌≤◌, ◌∷◌, [], ◌==◌, cond, ℕ, Bool, true, false, List, Option, Some, None, map, not, option_map, if◌then◌else◌}
use Rattle.std.proofs.Common.{◌∙◌, refl, sym, ap, subst, arith, inl, inr}
use Rattle.std.proofs.lemmas.Bool.{eqb-true}
use Rattle.scp_types.specs.declared.event.Refusal.{Refusal}
use Rattle.scp_types.specs.declared.event.Refusal.TheVariants.{NoMemory}
use Rattle.scp_types.specs.declared.event.Event.TheVariants.{Deliver}
use Rattle.scp_spec.specs.Hosts.{Config}
use Rattle.scp_spec.specs.Networks.{Budgets, HostedNode, Reading, Step, instances_at}
use Rattle.scp_spec.specs.Networks.Reading.{Fault, Read}
use Rattle.scp_spec.specs.Networks.Step.{BallotTimerFires, Closes, Delivers, Hears, NominationTimerFires, Opens, Proposes, Reslices}
use Rattle.scp_spec.specs.Rosters.{Roster}
use Rattle.host_config.specs.Configs.{names_of}
use Rattle.host_network.specs.Decoding.{reading, step_of}
use Rattle.host_network.specs.FiledSlots.{CountedSlot, slot_of}
use Rattle.host_network.specs.Standing.{IsStood, Machine, net_of}
use Rattle.live_network.specs.Telling.{IsServedBy}
use Rattle.live_network.specs.declared.served.Served.{Served}
use Rattle.live_feed.specs.declared.answering.Drawn.{Drawn}
use Rattle.line_script.specs.Script.{Bytes}
use Rattle.live_host.specs.Futures.{moved, moved_budgets, moved_config, moved_roster}
use Rattle.live_host.specs.Hosts.{AreServed, begun, drawn}
use Rattle.live_host.specs.Hosts.AreServed.{next_node, none_left}
use Rattle.live_host.specs.declared.all.NodeAnswer.{NodeAnswer}
use Rattle.live_host.specs.Erasing.{AreOthers, AreServedInTurn, CameAllAs, CameAs, ClosedSlotsAreErased, HadMemoryToServe, HasOpensFor, HasRoomBy, IsErasedBy, IsLine, IsLineErasable, IsNoRefusedOpening, IsSameLine, Line, OthersDrawAsMuch, StandsAsWell, both_amounts, counted_slots_but, drawn_at_slot, drawn_by, is_line_at, is_reading_at, is_step_at, none_drawn}
use Rattle.live_host.specs.Erasing.CameAllAs.{next_came, none_came}
use Rattle.live_host.specs.Erasing.AreOthers.{no_others, one_other, one_there}
use Rattle.live_host.specs.Erasing.AreServedInTurn.{ended, goes_on}
use Rattle.live_host.specs.Erasing.Line.{OfBytes, OfEvent}
use Rattle.live_host.proofs.MovedParts.{lowered_budgets, lowered_roster, roster_with, same-budgets}
use Rattle.live_host.proofs.ErasedMachines.{GrowsBy, all-stood, all_machine_events_there_are_erased, erased_machines_serve_alike, erased_machines_serve_all_alike, grows-by-both, grows-by-none, machine_events_there_are_erased, served-stood}
use Rattle.live_host.proofs.ErasedParts.{other-way}
use Rattle.live_host.proofs.ErasedStanding.{some-left}
use Rattle.live_host.proofs.ErasedThere.{both-turn, drawn_as, less-opens}
use Rattle.live_host.proofs.ErasedWithin.{all-within, served-within}

-- ---- lines
line-stood : (l : Line) (m now : Machine) → IsStood m → IsLine l m now → IsStood now × GrowsBy m now
line-stood (OfEvent e s d) m now stood line = served-stood m e now s stood line.0
line-stood (OfBytes bytes answers d) m now stood line = all-stood bytes stood line.0

line-within : (l : Line) (m now : Machine) → IsStood m → IsLine l m now → HasRoomBy none_drawn m → HasRoomBy none_drawn now
line-within (OfEvent e s d) m now stood line room = served-within m e now s stood line.0 room
line-within (OfBytes bytes answers d) m now stood line room = all-within bytes stood line.0 room

pub run-stood : {m : Machine} {lines : List Line} {after : Machine} → IsStood m → AreServedInTurn m lines after
    → IsStood after × GrowsBy m after
run-stood {m = m} stood ended = (stood, grows-by-none m)
run-stood {m = m} {after = after} stood (goes_on {now} l line others) =
    let here = line-stood l m now stood line in
    let rest = run-stood here.0 others in
    (rest.0, grows-by-both m now after here.1 rest.1)

run-within : {m : Machine} {lines : List Line} {after : Machine} → IsStood m → AreServedInTurn m lines after
    → HasRoomBy none_drawn m → HasRoomBy none_drawn after
run-within stood ended room = room
run-within {m = m} stood (goes_on {now} l line others) room =
    run-within (line-stood l m now stood line).0 others (line-within l m now stood line room)

-- ---- what is drawn
drawn-by-line : (l : Line) (m now : Machine) → IsLine l m now → drawn m now ≡ drawn_by l
drawn-by-line (OfEvent e s d) m now line = line.1
drawn-by-line (OfBytes bytes answers d) m now line = line.1

same-drawn : (a b : Drawn) → a.events ≡ b.events → a.bytes ≡ b.bytes → a.opens ≡ b.opens → a ≡ b
same-drawn a b events bytes opens =
    ap (λ n. drawn_as n a.bytes a.opens) events ∙ ap (λ n. drawn_as b.events n a.opens) bytes
    ∙ ap (drawn_as b.events b.bytes) opens

-- machines of which as much is used up
record AreAsUsed (a b : Machine) : Type 0 where
  events : a.events ≡ b.events
  bytes : a.bytes ≡ b.bytes
  opens : a.opens ≡ b.opens

as-used : (a b : Machine) → IsStood a → StandsAsWell a b → AreAsUsed a b
as-used a b (draws, tallied) stands =
    let is = (stands (net_of a draws) (record { is = refl; tallied = tallied })).is in
    record { events = ap (λ x. x.events) is; bytes = ap (λ x. x.bytes) is; opens = ap (λ x. x.opens) is }

used-same : (a : Machine) → AreAsUsed a a
used-same a = record { events = refl; bytes = refl; opens = refl }

used-back : (a b : Machine) → AreAsUsed a b → AreAsUsed b a
used-back a b used = record { events = sym used.events; bytes = sym used.bytes; opens = sym used.opens }

drawn-as-used : (a b now next : Machine) → AreAsUsed a b → AreAsUsed now next → drawn b next ≡ drawn a now
drawn-as-used a b now next one two =
    same-drawn (drawn b next) (drawn a now) (omega (arith, one.events, two.events)) (omega (arith, one.bytes, two.bytes))
    (omega (arith, one.opens, two.opens))

drawn-left : (i : ℕ) (rest lost : Drawn) (m now left next : Machine) → IsErasedBy i rest lost m left
    → IsErasedBy i rest lost now next → drawn left next ≡ drawn m now
drawn-left i rest lost m now left next one two =
    same-drawn (drawn left next) (drawn m now) (omega (arith, one.events, two.events))
    (omega (arith, one.bytes, two.bytes)) (omega (arith, one.opens, two.opens))

drawn-none : (a z : Machine) → drawn z z ≡ drawn a a
drawn-none a z = same-drawn (drawn z z) (drawn a a) (omega arith) (omega arith) (omega arith)

-- the lines of a slot draw no more than all do
record Covers (m : Machine) (d : Drawn) (after : Machine) : Type 0 where
  events : m.events + d.events ≤ after.events
  bytes : m.bytes + d.bytes ≤ after.bytes
  opens : m.opens + d.opens ≤ after.opens

covers-there : (m now after : Machine) (d : Drawn) → GrowsBy m now → Covers now d after
    → Covers m (both_amounts (drawn m now) d) after
covers-there m now after d grows more = record {
  events = omega (arith, grows.events, more.events);
  bytes = omega (arith, grows.bytes, more.bytes);
  opens = omega (arith, grows.opens, more.opens);
}

covers-elsewhere : (m now after : Machine) (d : Drawn) → GrowsBy m now → Covers now d after → Covers m d after
covers-elsewhere m now after d grows more = record {
  events = omega (arith, grows.events, more.events);
  bytes = omega (arith, grows.bytes, more.bytes);
  opens = omega (arith, grows.opens, more.opens);
}

covers : (i : ℕ) {m : Machine} {lines : List Line} {after : Machine} → IsStood m → AreServedInTurn m lines after
    → Covers m (drawn_at_slot i lines) after
covers i {m = m} stood ended = record { events = omega arith; bytes = omega arith; opens = omega arith }
covers i {m = m} {after = after} stood (goes_on {now} {lines} l line others) =
    let here = line-stood l m now stood line in by here.1 (covers i here.0 others) (is_line_at i l)
  where
    by : GrowsBy m now → Covers now (drawn_at_slot i lines) after → (b : Bool)
        → Covers m (if b then both_amounts (drawn_by l) (drawn_at_slot i lines) else drawn_at_slot i lines) after
    by grows more true =
        subst (λ d. Covers m (both_amounts d (drawn_at_slot i lines)) after) (drawn-by-line l m now line)
        (covers-there m now after (drawn_at_slot i lines) grows more)
    by grows more false = covers-elsewhere m now after (drawn_at_slot i lines) grows more

room-for : (m after : Machine) (d : Drawn) → GrowsBy m after → Covers m d after → HasRoomBy none_drawn after → HasRoomBy d m
room-for m after d grows more room = record {
  events = let most = subst (λ b. after.events + 0 ≤ b.events) grows.budgets room.events in
      omega (arith, more.events);
  bytes = let most = subst (λ b. after.bytes + 0 ≤ b.bytes) grows.budgets room.bytes in
      omega (arith, more.bytes);
  opens = less-opens (m.opens + d.opens) (after.opens + 0) m.config.roster (omega (arith, more.opens))
      (subst (HasOpensFor (after.opens + 0)) grows.roster room.opens);
}

-- a line of another slot is served without the slot
other-line : (i : ℕ) (rest lost : Drawn) (l : Line) (m now left : Machine) → IsStood m → IsErasedBy i rest lost m left
    → is_line_at i l ≡ false → IsLineErasable l → HasRoomBy rest now → IsLine l m now
    → (k : Line) × (next : Machine) × IsSameLine l k × IsLine k left next × IsErasedBy i rest lost now next
other-line i rest lost (OfEvent e s d) m now left stood h off kept room line =
    let too = erased_machines_serve_alike i rest lost m left e now s stood h off line.0 kept.0 kept.1 room in
    (OfEvent e too.1 d, too.0, (refl, too.4, refl), (too.5, drawn-left i rest lost m now left too.0 h too.3 ∙ line.1), too.3)
other-line i rest lost (OfBytes bytes answers d) m now left stood h off kept room line =
    let too = erased_machines_serve_all_alike i rest lost m left bytes (names_of m.config.nodes) answers now stood h off
    line.0 kept room in (
      OfBytes bytes too.1 d,
      too.0,
      (refl, too.4, refl),
      (
        subst (λ hs. AreServed bytes (names_of hs) left too.1 too.0) (sym h.nodes) too.5,
        drawn-left i rest lost m now left too.0 h too.3 ∙ line.1,
      ),
      too.3,
    )

-- a line of the slot changes nothing of what is left
abbrev IsLineThere : ℕ → Drawn → Drawn → Machine → Machine → Drawn → Type 0
IsLineThere i rest lost now left d =
    (left_too : Machine) × (left_too.config ≡ left.config) × IsStood now × IsErasedBy i rest (both_amounts lost d) now left_too
    × StandsAsWell left left_too

line-there : (i : ℕ) (rest lost : Drawn) (l : Line) (m now left : Machine) → IsStood m → is_line_at i l ≡ true
    → IsErasedBy i (both_amounts (drawn_by l) rest) lost m left → IsLine l m now → IsLineThere i rest lost now left (drawn_by l)
line-there i rest lost (OfEvent e s d) m now left stood on h line =
    subst (IsLineThere i rest lost now left) line.1
    (machine_events_there_are_erased i rest lost m left e now s stood on line.0
    (subst (λ x. IsErasedBy i (both_amounts x rest) lost m left) (sym line.1) h))
line-there i rest lost (OfBytes bytes answers d) m now left stood on h line =
    subst (IsLineThere i rest lost now left) line.1
    (all_machine_events_there_are_erased i rest lost m left bytes (names_of m.config.nodes) answers now stood on line.0
    (subst (λ x. IsErasedBy i (both_amounts x rest) lost m left) (sym line.1) h))

-- ---- another beginning
all-from : (bytes : Bytes) {us : List ℕ} {a : Machine} {answers : List NodeAnswer} {now : Machine} (b : Machine)
    → StandsAsWell b a → a.config ≡ b.config → AreServed bytes us a answers now
    → (next : Machine) × AreServed bytes us b answers next × StandsAsWell next now
    × (now.config ≡ next.config)
all-from bytes b stands same none_left = (b, none_left, stands, same)
all-from bytes {now = now} b stands same (next_node a served others) = (
  now,
  next_node a (record { slot = served.slot; served = λ n here. served.served n (stands n here) }) others,
  λ n here. here,
  refl,
)

-- lines lead from a machine that stands for no other networks to one that stands for no others
run-from : {a : Machine} {lines : List Line} {x : Machine} (b : Machine) → IsStood b → StandsAsWell b a
    → a.config ≡ b.config → AreServedInTurn a lines x → (y : Machine) × AreServedInTurn b lines y × StandsAsWell y x
run-from b stood stands same ended = (b, ended, stands)
run-from {a} {x = x} b stood stands same (goes_on {now} (OfEvent e s d) line others) = (
  x,
  goes_on (OfEvent e s d) (
    record { slot = line.0.slot; served = λ n here. line.0.served n (stands n here) },
    drawn-as-used a b now now (used-back b a (as-used b a stood stands)) (used-same now) ∙ line.1,
  ) others,
  λ n here. here,
)
run-from {a} b stood stands same (goes_on {now} (OfBytes bytes answers d) line others) =
    let here = all-from bytes b stands same line.0 in
    let next = (all-stood bytes stood here.1).0 in
    let rest = run-from here.0 next here.2 here.3 others in (
      rest.0,
      goes_on (OfBytes bytes answers d) (
        subst (λ c. AreServed bytes (names_of c.nodes) b answers here.0) same here.1,
        drawn-as-used a b now here.0 (used-back b a (as-used b a stood stands))
            (used-back here.0 now (as-used here.0 now next here.2)) ∙ line.1,
      ) rest.1,
      rest.2,
    )

-- ---- runs
plus-none : (n : ℕ) → n ≡ n + 0
plus-none n = omega arith

none-plus : (n : ℕ) → n ≡ 0 + n
none-plus n = omega arith

pub both-none : (d : Drawn) → d ≡ both_amounts d none_drawn
both-none d =
    ap (λ n. drawn_as n d.bytes d.opens) (plus-none d.events) ∙ ap (λ n. drawn_as (d.events + 0) n d.opens) (plus-none d.bytes)
    ∙ ap (drawn_as (d.events + 0) (d.bytes + 0)) (plus-none d.opens)

none-both : (d : Drawn) → d ≡ both_amounts none_drawn d
none-both d =
    ap (λ n. drawn_as n d.bytes d.opens) (none-plus d.events) ∙ ap (λ n. drawn_as (0 + d.events) n d.opens) (none-plus d.bytes)
    ∙ ap (drawn_as (0 + d.events) (0 + d.bytes)) (none-plus d.opens)

left-stood : (i : ℕ) (rest lost : Drawn) (m left : Machine) → IsStood m → IsErasedBy i rest lost m left → IsStood left
left-stood i rest lost m left stood h = let some = some-left i rest lost m left stood h in (some.0.draws, some.1.tallied)

-- what the lines of a run come to without those of the slot
abbrev IsRunLeft : ℕ → List Line → Machine → Drawn → Machine → Type 0
IsRunLeft i lines left gone after =
    (others : List Line) × (end : Machine) × (left_after : Machine) × AreOthers i lines others × AreServedInTurn left others end
    × StandsAsWell end left_after × IsErasedBy i none_drawn gone after left_after

run-left : (i : ℕ) (lost : Drawn) {m : Machine} {lines : List Line} {after : Machine} (left : Machine) → IsStood m
    → AllByRecursion (λ l. is_line_at i l ≡ false → IsLineErasable l) lines → HasRoomBy none_drawn after
    → AreServedInTurn m lines after → IsErasedBy i (drawn_at_slot i lines) lost m left
    → IsRunLeft i lines left (both_amounts lost (drawn_at_slot i lines)) after
run-left i lost {m = m} left stood kept room ended h = (
  [],
  left,
  left,
  no_others,
  ended,
  λ n here. here,
  subst (λ d. IsErasedBy i none_drawn d m left) (both-none lost) h,
)
run-left i lost {m = m} {after = after} left stood kept room (goes_on {now} {lines} l line others) h =
    let next = line-stood l m now stood line in
    by (room-for now after (drawn_at_slot i lines) (run-stood next.0 others).1 (covers i next.0 others) room)
    (is_line_at i l) refl h (λ gone still is. run-left i gone still next.0 kept.1 room others is)
  where
    by : HasRoomBy (drawn_at_slot i lines) now → (b : Bool) → is_line_at i l ≡ b
        → IsErasedBy i (if b then both_amounts (drawn_by l) (drawn_at_slot i lines) else drawn_at_slot i lines) lost m left
        → ((gone : Drawn) (still : Machine) → IsErasedBy i (drawn_at_slot i lines) gone now still
        → IsRunLeft i lines still (both_amounts gone (drawn_at_slot i lines)) after)
        → IsRunLeft i (l ∷ lines) left
        (both_amounts lost (if b then both_amounts (drawn_by l) (drawn_at_slot i lines) else drawn_at_slot i lines)) after
    by room_now true on erased more =
        let here = line-there i (drawn_at_slot i lines) lost l m now left stood on erased line in
        let rest = more (both_amounts lost (drawn_by l)) here.0 here.3 in
        let left_stood = left-stood i (both_amounts (drawn_by l) (drawn_at_slot i lines)) lost m left stood erased in
        let from = run-from left left_stood here.4 here.1 rest.4 in (
          rest.0,
          from.0,
          rest.2,
          one_there on rest.3,
          from.1,
          λ n stands. rest.5 n (from.2 n stands),
          subst (λ gone. IsErasedBy i none_drawn gone after rest.2)
              (sym (both-turn lost (drawn_by l) (drawn_at_slot i lines))) rest.6,
        )
    by room_now false off erased more =
        let here = other-line i (drawn_at_slot i lines) lost l m now left stood erased off (kept.0 off) room_now line in
        let rest = more lost here.1 here.4 in
        (here.0 ∷ rest.0, rest.1, rest.2, one_other off here.2 rest.3, goes_on here.0 here.3 rest.4, rest.5, rest.6)

-- ---- the beginning and the end
pub begun-stood : (c : Config) → IsStood (begun c)
begun-stood c = ([], λ k slot below. absurd (omega (arith, below)))

begun-opens : (r : Option Roster) → HasOpensFor (0 + 0) r
begun-opens None = tt
begun-opens (Some r) = let none : 0 + 0 ≤ r.shares.opens = omega arith in none

begun-within : (c : Config) → HasRoomBy none_drawn (begun c)
begun-within c = record { events = omega arith; bytes = omega arith; opens = begun-opens c.roster }

-- so much less is declared
abbrev lowered_config : Drawn → Config → Config
lowered_config d c =
    record c { budgets = lowered_budgets d c.budgets; roster = option_map (lowered_roster d) c.roster }

raised : (n d : ℕ) → 0 + d ≤ n → n ≡ (n - d) + d
raised n d less = omega arith

raised-roster : (d : Drawn) (r : Option Roster) → HasOpensFor (0 + d.opens) r
    → r ≡ option_map (moved_roster d) (option_map (lowered_roster d) r)
raised-roster d None less = refl
raised-roster d (Some r) less = ap (λ n. Some (roster_with r n)) (raised r.shares.opens d.opens less)

raised-config : (d : Drawn) (c : Config) → HasRoomBy d (begun c) → c ≡ moved_config d (lowered_config d c)
raised-config d c room =
    ap (λ b. record c { budgets = b })
    (same-budgets c.budgets (moved_budgets d (lowered_budgets d c.budgets)) (raised c.budgets.events d.events room.events)
    (raised c.budgets.bytes d.bytes room.bytes) refl)
    ∙ ap (λ r. record c { budgets = moved_budgets d (lowered_budgets d c.budgets); roster = r })
    (raised-roster d c.roster room.opens)

begun-erased : (i : ℕ) (d : Drawn) (c less : Config) → c ≡ moved_config d less
    → IsErasedBy i d none_drawn (begun c) (begun less)
begun-erased i d c less is = record {
  number = sym (ap (λ x. x.number) is);
  nodes = sym (ap (λ x. x.nodes) is);
  slots = refl;
  budgets = ap (λ x. x.budgets) is ∙ ap (λ g. moved_budgets g less.budgets) (none-both d);
  roster = ap (λ x. x.roster) is ∙ ap (λ g. option_map (moved_roster g) less.roster) (none-both d);
  events = refl;
  bytes = refl;
  opens = refl;
}

not-there : (i : ℕ) (ss : List CountedSlot) → instances_at (map slot_of ss) i ≡ None → counted_slots_but i ss ≡ ss
not-there i [] closed = refl
not-there i (s ∷ ss) closed = by (s.number == i) closed (not-there i ss)
  where
    by : (b : Bool) → (if b then Some (slot_of s).instances else instances_at (map slot_of ss) i) ≡ None
        → (instances_at (map slot_of ss) i ≡ None → counted_slots_but i ss ≡ ss)
        → cond (not b) (s ∷ counted_slots_but i ss) (counted_slots_but i ss) ≡ s ∷ ss
    by true none more = cc
    by false none more = ap (λ rest. s ∷ rest) (more none)

abbrev machine_of_parts : ℕ → List HostedNode → Budgets → Option Roster → List CountedSlot → ℕ → ℕ → ℕ → Machine
machine_of_parts number nodes budgets roster slots events bytes opens = record {
  config = record { number = number; nodes = nodes; budgets = budgets; roster = roster };
  slots = slots;
  events = events;
  bytes = bytes;
  opens = opens;
}

moved-at-end : (i : ℕ) (d : Drawn) (m left : Machine) → IsErasedBy i none_drawn d m left
    → instances_at (map slot_of m.slots) i ≡ None → m ≡ moved d left
moved-at-end i d m left h closed =
    let c : Config = m.config in
    let k : Config = left.config in
    let nodes : c.nodes ≡ k.nodes = sym h.nodes in
    let budgets : c.budgets ≡ moved_budgets d k.budgets =
    h.budgets ∙ ap (λ g. moved_budgets g k.budgets) (sym (both-none d)) in
    let roster : c.roster ≡ option_map (moved_roster d) k.roster =
    h.roster ∙ ap (λ g. option_map (moved_roster g) k.roster) (sym (both-none d)) in
    let slots : m.slots ≡ left.slots = sym (h.slots ∙ not-there i m.slots closed) in
    ap (λ x. machine_of_parts x c.nodes c.budgets c.roster m.slots m.events m.bytes m.opens) (sym h.number)
    ∙ ap (λ x. machine_of_parts k.number x c.budgets c.roster m.slots m.events m.bytes m.opens) nodes
    ∙ ap (λ x. machine_of_parts k.number k.nodes x c.roster m.slots m.events m.bytes m.opens) budgets
    ∙ ap (λ x. machine_of_parts k.number k.nodes (moved_budgets d k.budgets) x m.slots m.events m.bytes m.opens) roster
    ∙ ap (λ x. machine_of_parts k.number k.nodes (moved_budgets d k.budgets) (option_map (moved_roster d) k.roster) x
    m.events m.bytes m.opens) slots
    ∙ ap (λ x. machine_of_parts k.number k.nodes (moved_budgets d k.budgets) (option_map (moved_roster d) k.roster) left.slots
    x m.bytes m.opens) h.events
    ∙ ap (λ x. machine_of_parts k.number k.nodes (moved_budgets d k.budgets) (option_map (moved_roster d) k.roster) left.slots
    (left.events + d.events) x m.opens) h.bytes
    ∙ ap (machine_of_parts k.number k.nodes (moved_budgets d k.budgets) (option_map (moved_roster d) k.roster) left.slots
    (left.events + d.events) (left.bytes + d.bytes)) h.opens

-- ---- another end
served-to : (old : Machine) (e : Step) (now y : Machine) (s : Served) → StandsAsWell now y → IsServedBy old e now s
    → IsServedBy old e y s
served-to old e now y s stands served = record {
  slot = served.slot;
  served = λ n here. let step = served.served n here in (step.0, step.1, stands step.0 step.2);
}

-- bytes come to no node, whatever the machine is
abbrev NoneServed : Bytes → List ℕ → List NodeAnswer → Type 0
NoneServed bytes us answers = (z : Machine) → AreServed bytes us z answers z

all-to : (bytes : Bytes) {us : List ℕ} {a : Machine} {answers : List NodeAnswer} {now : Machine} (y : Machine)
    → StandsAsWell now y → AreServed bytes us a answers now
    → AreServed bytes us a answers y ⊎ ((now ≡ a) × NoneServed bytes us answers)
all-to bytes y stands none_left = inr (refl, λ z. none_left)
all-to bytes {a = old} {now = new} y stands (next_node {us = rest} {now} {answers = more} a served others) =
    by (all-to bytes y stands others)
  where
    by : AreServed bytes rest now more y ⊎ ((new ≡ now) × NoneServed bytes rest more)
        → AreServed bytes (a.node ∷ rest) old (a ∷ more) y
        ⊎ ((new ≡ old) × NoneServed bytes (a.node ∷ rest) (a ∷ more))
    by (inl to) = inl (next_node a served to)
    by (inr (is, none)) = inl (next_node a (served-to old (step_of (Deliver a.node bytes)) now y a.served
        (subst (λ x. StandsAsWell x y) is stands) served) (none y))

-- lines that change no machine of these nodes
abbrev NoneRun : List HostedNode → List Line → Type 0
NoneRun nodes lines = (z : Machine) → z.config.nodes ≡ nodes → AreServedInTurn z lines z

-- lines lead to each machine that stands for the same and more; or they change nothing
run-to : {a : Machine} {lines : List Line} {x : Machine} (y : Machine) → IsStood a → StandsAsWell x y
    → y.config.nodes ≡ x.config.nodes → AreAsUsed x y → AreServedInTurn a lines x
    → AreServedInTurn a lines y ⊎ ((x ≡ a) × NoneRun a.config.nodes lines)
run-to y stood stands same used ended = inr (refl, λ z nodes. ended)
run-to {a} {x = x} y stood stands same used (goes_on {now} {lines} (OfEvent e s d) line others) =
    by (run-to y (served-stood a e now s stood line.0).0 stands same used others)
  where
    by : AreServedInTurn now lines y ⊎ ((x ≡ now) × NoneRun now.config.nodes lines)
        → AreServedInTurn a (OfEvent e s d ∷ lines) y ⊎ ((x ≡ a) × NoneRun a.config.nodes (OfEvent e s d ∷ lines))
    by (inl to) = inl (goes_on (OfEvent e s d) line to)
    by (inr (is, none)) = inl
        (goes_on (OfEvent e s d) (
          served-to a e now y s (subst (λ z. StandsAsWell z y) is stands) line.0,
          drawn-as-used a a now y (used-same a) (subst (λ z. AreAsUsed z y) is used) ∙ line.1,
        )
        (none y (same ∙ ap (λ z. z.config.nodes) is)))
run-to {a} {x = x} y stood stands same used (goes_on {now} {lines} (OfBytes bytes answers d) line others) =
    let here = all-stood bytes stood line.0 in
    by here.1.nodes (λ is. all-to bytes y (subst (λ z. StandsAsWell z y) is stands) line.0)
    (run-to y here.0 stands same used others)
  where
    by : now.config.nodes ≡ a.config.nodes
        → ((x ≡ now) → AreServed bytes (names_of a.config.nodes) a answers y
        ⊎ ((now ≡ a) × NoneServed bytes (names_of a.config.nodes) answers))
        → AreServedInTurn now lines y ⊎ ((x ≡ now) × NoneRun now.config.nodes lines)
        → AreServedInTurn a (OfBytes bytes answers d ∷ lines) y
        ⊎ ((x ≡ a) × NoneRun a.config.nodes (OfBytes bytes answers d ∷ lines))
    by nodes last (inl to) = inl (goes_on (OfBytes bytes answers d) line to)
    by nodes last (inr (is, none)) = so (last is)
      where
        so : AreServed bytes (names_of a.config.nodes) a answers y
            ⊎ ((now ≡ a) × NoneServed bytes (names_of a.config.nodes) answers)
            → AreServedInTurn a (OfBytes bytes answers d ∷ lines) y
            ⊎ ((x ≡ a) × NoneRun a.config.nodes (OfBytes bytes answers d ∷ lines))
        so (inl to) = inl
            (goes_on (OfBytes bytes answers d)
            (to, drawn-as-used a a now y (used-same a) (subst (λ z. AreAsUsed z y) is used) ∙ line.1)
            (none y (same ∙ ap (λ z. z.config.nodes) is)))
        so (inr (as_it_was, nobody)) = inr (
          is ∙ as_it_was,
          λ z hosted.
              goes_on (OfBytes bytes answers d) (
                subst (λ hs. AreServed bytes (names_of hs) z answers z) (sym hosted) (nobody z),
                drawn-none a z ∙ ap (drawn a) (sym as_it_was) ∙ line.1,
              )
              (none z (hosted ∙ sym nodes)),
        )

no-counted : (ss : List CountedSlot) → [] ≡ map slot_of ss → ss ≡ []
no-counted [] is = refl
no-counted (s ∷ ss) is = cc

-- a machine that stands for a network that has just begun has just begun
begun-so : (c : Config) (left : Machine) → StandsAsWell (begun c) left → left ≡ begun c
unfolding begun-stood
begun-so c left stands =
    let is = (stands (net_of (begun c) []) (record { is = refl; tallied = (begun-stood c).1 })).is in
    let k : Config = left.config in
    ap (λ x. machine_of_parts x k.nodes k.budgets k.roster left.slots left.events left.bytes left.opens)
    (sym (ap (λ x. x.number) is))
    ∙ ap (λ x. machine_of_parts c.number x k.budgets k.roster left.slots left.events left.bytes left.opens)
    (sym (ap (λ x. x.nodes) is))
    ∙ ap (λ x. machine_of_parts c.number c.nodes x k.roster left.slots left.events left.bytes left.opens)
    (sym (ap (λ x. x.budgets) is))
    ∙ ap (λ x. machine_of_parts c.number c.nodes c.budgets x left.slots left.events left.bytes left.opens)
    (sym (ap (λ x. x.roster) is))
    ∙ ap (λ x. machine_of_parts c.number c.nodes c.budgets c.roster x left.events left.bytes left.opens)
    (no-counted left.slots (ap (λ x. x.slots) is))
    ∙ ap (λ x. machine_of_parts c.number c.nodes c.budgets c.roster [] x left.bytes left.opens)
    (sym (ap (λ x. x.events) is))
    ∙ ap (λ x. machine_of_parts c.number c.nodes c.budgets c.roster [] 0 x left.opens) (sym (ap (λ x. x.bytes) is))
    ∙ ap (machine_of_parts c.number c.nodes c.budgets c.roster [] 0 0) (sym (ap (λ x. x.opens) is))

-- a machine stands for a network if it stands for all that another one does
stood-as-well : (x y : Machine) → IsStood x → StandsAsWell x y → IsStood y × (y.config.nodes ≡ x.config.nodes)
stood-as-well x y (draws, tallied) stands =
    let here = stands (net_of x draws) (record { is = refl; tallied = tallied }) in
    ((draws, here.tallied), sym (ap (λ n. n.nodes) here.is))

-- lines from the beginning lead to each machine that stands for the same and more
pub begun-to : (c : Config) (lines : List Line) (x y : Machine) → AreServedInTurn (begun c) lines x → StandsAsWell x y
    → AreServedInTurn (begun c) lines y × IsStood y
begun-to c lines x y run stands =
    let well = stood-as-well x y (run-stood (begun-stood c) run).0 stands in
    (by (run-to y (begun-stood c) stands well.1 (as-used x y (run-stood (begun-stood c) run).0 stands) run), well.0)
  where
    by : AreServedInTurn (begun c) lines y ⊎ ((x ≡ begun c) × NoneRun c.nodes lines) → AreServedInTurn (begun c) lines y
    by (inl to) = to
    by (inr (is, none)) =
        subst (AreServedInTurn (begun c) lines) (sym (begun-so c y (subst (λ z. StandsAsWell z y) is stands)))
        (none (begun c) refl)

-- ---- the other lines
memory-too : (s t : Served) → HadMemoryToServe s → CameAs s t → HadMemoryToServe t
memory-too s t memory (inl is) = subst HadMemoryToServe (sym is) memory
memory-too s t memory (inr (r, other, refused, never, is)) =
    subst HadMemoryToServe (sym is)
    (record { refused = λ none. let why : other ≡ NoMemory = cc in never why; told = memory.told })

kept-so : (e : Step) (s : Served) (r other : Refusal) → IsNoRefusedOpening e s → s.refused ≡ Some r
    → IsNoRefusedOpening e (record s { refused = Some other })
kept-so (Opens i) s r other kept is = cc
kept-so (Closes i) s r other kept is = tt
kept-so (Proposes i u x) s r other kept is = tt
kept-so (Delivers u size said) s r other kept is = tt
kept-so (Hears i u from kind k) s r other kept is = tt
kept-so (NominationTimerFires i u n) s r other kept is = tt
kept-so (BallotTimerFires i u n) s r other kept is = tt
kept-so (Reslices i u q) s r other kept is = tt

kept-too : (e : Step) (s t : Served) → IsNoRefusedOpening e s → CameAs s t → IsNoRefusedOpening e t
kept-too e s t kept (inl is) = subst (IsNoRefusedOpening e) (sym is) kept
kept-too e s t kept (inr (r, other, refused, never, is)) =
    subst (IsNoRefusedOpening e) (sym is) (kept-so e s r other kept refused)

all-memory : {answers others : List NodeAnswer} → CameAllAs answers others
    → AllByRecursion (λ a. HadMemoryToServe a.served) answers → AllByRecursion (λ a. HadMemoryToServe a.served) others
all-memory none_came memory = tt
all-memory (next_came {a} {b} node came more) memory =
    (memory-too a.served b.served memory.0 came, all-memory more memory.1)

pub line-kept : (l k : Line) → IsSameLine l k → IsLineErasable l → IsLineErasable k
line-kept (OfEvent e s d) (OfEvent f t c) same kept =
    subst (λ x. IsNoRefusedOpening x t × HadMemoryToServe t) (sym same.0) (kept-too e s t kept.0 same.1, memory-too s t kept.1 same.1)
line-kept (OfEvent e s d) (OfBytes bytes answers c) same kept = absurd same
line-kept (OfBytes bytes answers d) (OfEvent e s c) same kept = absurd same
line-kept (OfBytes bytes answers d) (OfBytes twin others c) same kept = all-memory same.1 kept

others-kept : (i : ℕ) {lines others : List Line} → AreOthers i lines others
    → AllByRecursion (λ l. is_line_at i l ≡ false → IsLineErasable l) lines → AllByRecursion IsLineErasable others
others-kept i no_others kept = tt
others-kept i (one_there on more) kept = others-kept i more kept.1
others-kept i (one_other {l} {k} off same more) kept = (line-kept l k same (kept.0 off), others-kept i more kept.1)

-- a step at one slot is at no other
at-one : (i k j : ℕ) → (i == k) ≡ false → (i == j) ≡ true → (k == j) ≡ false
at-one i k j off on = other-way j k (subst (λ n. (n == k) ≡ false) (eqb-true i j on) off)

step-at-one : (i k : ℕ) (e : Step) → (i == k) ≡ false → is_step_at i e ≡ true → is_step_at k e ≡ false
step-at-one i k (Opens j) off on = at-one i k j off on
step-at-one i k (Closes j) off on = at-one i k j off on
step-at-one i k (Proposes j u x) off on = at-one i k j off on
step-at-one i k (Delivers u size (Read e)) off on = at-one i k e.slot off on
step-at-one i k (Delivers u size (Fault n)) off on = refl
step-at-one i k (Hears j u from kind n) off on = at-one i k j off on
step-at-one i k (NominationTimerFires j u n) off on = at-one i k j off on
step-at-one i k (BallotTimerFires j u n) off on = at-one i k j off on
step-at-one i k (Reslices j u q) off on = at-one i k j off on

reading-at-one : (i k : ℕ) (said : Reading) → (i == k) ≡ false → is_reading_at i said ≡ true → is_reading_at k said ≡ false
reading-at-one i k (Read e) off on = at-one i k e.slot off on
reading-at-one i k (Fault n) off on = refl

line-at-one : (i k : ℕ) (l : Line) → (i == k) ≡ false → is_line_at i l ≡ true → is_line_at k l ≡ false
line-at-one i k (OfEvent e s d) off on = step-at-one i k e off on
line-at-one i k (OfBytes bytes answers d) off on = reading-at-one i k (reading bytes) off on

pub same-line-at : (k : ℕ) (l n : Line) → IsSameLine l n → (is_line_at k n ≡ is_line_at k l) × (drawn_by n ≡ drawn_by l)
same-line-at k (OfEvent e s d) (OfEvent f t c) same = (ap (is_step_at k) same.0, same.2)
same-line-at k (OfEvent e s d) (OfBytes bytes answers c) same = absurd same
same-line-at k (OfBytes bytes answers d) (OfEvent e s c) same = absurd same
same-line-at k (OfBytes bytes answers d) (OfBytes twin others c) same =
    (ap (λ x. is_reading_at k (reading x)) same.0, same.2)

pub others_draw_as_much : OthersDrawAsMuch
others_draw_as_much i k lines others off are = draws are
  where
    draws : {ls ks : List Line} → AreOthers i ls ks → drawn_at_slot k ks ≡ drawn_at_slot k ls
    draws no_others = refl
    draws (one_there {l} {lines = ls} on more) =
        draws more
        ∙ ap (λ b. if b then both_amounts (drawn_by l) (drawn_at_slot k ls) else drawn_at_slot k ls) (sym (line-at-one i k l off on))
    draws (one_other {l} {k = n} {lines = ls} {others = ks} away same more) =
        let one = same-line-at k l n same in
        ap (λ rest. if is_line_at k n then both_amounts (drawn_by n) rest else rest) (draws more)
        ∙ ap (λ b. if b then both_amounts (drawn_by n) (drawn_at_slot k ls) else drawn_at_slot k ls) one.0
        ∙ ap (λ d. if is_line_at k l then both_amounts d (drawn_at_slot k ls) else drawn_at_slot k ls) one.1

ended-so : (i : ℕ) (d : Drawn) (c less : Config) (lines : List Line) (m : Machine) → c ≡ moved_config d less
    → AllByRecursion (λ l. is_line_at i l ≡ false → IsLineErasable l) lines
    → instances_at (map slot_of m.slots) i ≡ None → IsRunLeft i lines (begun less) (both_amounts none_drawn d) m
    → (less : Config) × (others : List Line) × (left : Machine) × (c ≡ moved_config d less)
    × AreOthers i lines others × AreServedInTurn (begun less) others left × IsStood left × (m ≡ moved d left)
    × AllByRecursion IsLineErasable others
ended-so i d c less lines m is kept closed run =
    let to = begun-to less run.0 run.1 run.2 run.4 run.5 in (
      less,
      run.0,
      run.2,
      is,
      run.3,
      to.0,
      to.1,
      moved-at-end i d m run.2 (subst (λ g. IsErasedBy i none_drawn g m run.2) (sym (none-both d)) run.6) closed,
      others-kept i run.3 kept,
    )

pub closed_slots_are_erased : ClosedSlotsAreErased
closed_slots_are_erased i c lines m run kept closed =
    let d : Drawn = drawn_at_slot i lines in
    let stood = begun-stood c in
    let within = run-within stood run (begun-within c) in
    let room = room-for (begun c) m d (run-stood stood run).1 (covers i stood run) within in
    let is = raised-config d c room in
    ended-so i d c (lowered_config d c) lines m is kept closed
    (run-left i none_drawn (begun (lowered_config d c)) stood kept within run
    (begun-erased i d c (lowered_config d c) is))
