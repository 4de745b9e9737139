-- What an event comes to without a slot that is erased, as the host keeps networks.
use Rattle.std.specs.List.{AllByRecursion}
use Rattle.std.specs.Prelude.{◌≡◌, ◌+◌, ◌-◌, ◌≤◌, ◌∷◌, option_map, [], ℕ, true, false, List, Option, Some, None}
use Rattle.std.proofs.Common.{◌∙◌, refl, sym, ap, subst, inl, inr, arith}
use Rattle.scp_types.specs.declared.event.Event.TheVariants.{Deliver}
use Rattle.scp_types.specs.declared.event.Refusal.{Refusal}
use Rattle.scp_types.specs.declared.event.Refusal.TheVariants.{NoMemory}
use Rattle.scp_spec.specs.Networks.{Net, Step, source}
use Rattle.scp_spec.specs.Networks.Step.{BallotTimerFires, Closes, Delivers, Hears, NominationTimerFires, Opens, Proposes, Reslices}
use Rattle.host_network.specs.Decoding.{reading, step_of}
use Rattle.host_network.specs.Standing.{IsStood, Machine, StandsFor, net_of}
use Rattle.live_network.specs.Serving.{IsServed, ToldReply}
use Rattle.live_network.specs.Serving.Ending.{IsDone, IsRefused}
use Rattle.live_network.specs.Telling.{IsServedBy, IsToldAt, ending_by, ending_of, tellings_of}
use Rattle.live_network.specs.declared.served.Served.{Served}
use Rattle.live_feed.specs.declared.answering.Drawn.{Drawn}
use Rattle.line_script.specs.Script.{Bytes}
use Rattle.live_host.specs.Futures.{moved_budgets, moved_roster}
use Rattle.live_host.specs.Hosts.{AreServed, drawn}
use Rattle.live_host.specs.Hosts.AreServed.{next_node, none_left}
use Rattle.live_host.specs.declared.all.NodeAnswer.{NodeAnswer}
use Rattle.live_host.specs.Erasing.CameAllAs.{next_came, none_came}
use Rattle.live_host.specs.Erasing.{AllMachineEventsThereAreErased, AreToldAs, CameAllAs, CameAs, ErasedMachinesServeAlike, ErasedMachinesServeAllAlike, HasOpensFor, is_reading_at, HadMemoryToServe, HasRoomBy, IsErased, IsErasedBy, IsNoRefusedOpening, MachineEventsThereAreErased, StandsAsWell, both_amounts, drawn_in, is_step_at, opens_slot}
use Rattle.live_host.proofs.ErasedReasons.{is_full_for, no-memory, reason_without}
use Rattle.live_host.proofs.ErasedServed.{erased_nets_serve_alike, events_there_are_erased, refused-by, served-grows, told-same}
use Rattle.live_host.proofs.ErasedStanding.{IsOf, erased-left, is-of, left_of, room-of, some-left, stands-left, whole}
use Rattle.live_host.proofs.ErasedThere.{Grows, both-turn, drawn_as, less-opens}

-- ---- what an event comes to
-- it is served without the slot, as far as one network goes for which the machine stands that is left
record IsServedLeft (i : ℕ) (rest lost : Drawn) (after left : Machine) (e : Step) (t : Served) (n : Net) : Type 0 where
  net : Net
  next : Net
  stands : StandsFor after net
  erased : IsErased i rest lost net next
  is : IsOf left.config next
  served : IsServed n e (ending_of t) (tellings_of t.told.items) next

abbrev AreServedLeft : ℕ → Drawn → Drawn → Machine → Machine → Step → Served → Type 0
AreServedLeft i rest lost after left e t = (n : Net) → StandsFor left n → IsServedLeft i rest lost after left e t n

-- as far as all go
served-left : (i : ℕ) (rest lost : Drawn) (m left : Machine) (e : Step) (after : Machine) (t : Served)
    → IsStood m → IsErasedBy i rest lost m left → IsToldAt t.refused t.slot e → AreServedLeft i rest lost after left e t
    → IsStood after × IsErasedBy i rest lost after (left_of left.config i lost after)
    × IsServedBy left e (left_of left.config i lost after) t
served-left i rest lost m left e after t stood h slot each =
    let some = some-left i rest lost m left stood h in
    let one = each some.0 some.1 in (
      (one.net.draws, one.stands.tallied),
      erased-left left.config i rest lost after one.net one.next one.stands one.erased one.is,
      record {
        slot = slot;
        served = λ n stands.
            let x = each n stands in
            (x.next, x.served, stands-left left.config i rest lost after x.net x.next x.stands x.erased x.is);
      },
    )

-- a network that has come of one has the same configuration
of-grown : (m : Machine) (n next : Net) → StandsFor m n → Grows n next → IsOf m.config next
of-grown m n next stands grows =
    let of = is-of m n stands in
    record {
      number = grows.number ∙ of.number;
      nodes = grows.nodes ∙ of.nodes;
      budgets = grows.budgets ∙ of.budgets;
      roster = grows.roster ∙ of.roster;
    }

-- ---- events that are done
module _ (i : ℕ) (rest lost : Drawn) (m left : Machine) (e : Step) (after : Machine) (s : Served) (stood : IsStood m)
    (h : IsErasedBy i rest lost m left) (off : is_step_at i e ≡ false) (served : IsServedBy m e after s)
    (memory : HadMemoryToServe s) where
  done-left : s.refused ≡ None → HasRoomBy rest after → AreServedLeft i rest lost after left e s
  done-left none room n stands =
      let here = whole i rest lost m left stood h n stands in
      let step = served.served here.0 here.1.stands in
      let done = subst (λ o. IsServed here.0 e (ending_by o s.stale) (tellings_of s.told.items) step.0) none step.1 in
      by step.0 step.2
      (erased_nets_serve_alike i rest lost here.0 n e s.stale (tellings_of s.told.items) step.0 here.1.erased off done
      (room-of rest after step.0 step.2 room))
    where
      by : (net : Net) → StandsFor after net
          → (told : List ToldReply) × (next : Net) × AreToldAs (tellings_of s.told.items) told
          × IsServed n e (IsDone s.stale) told next × IsErased i rest lost net next
          → IsServedLeft i rest lost after left e s n
      by net stands_after (told, next, alike, served_too, erased) = record {
        net = net;
        next = next;
        stands = stands_after;
        erased = erased;
        is = of-grown left n next stands (served-grows served_too);
        served = subst (λ o. IsServed n e (ending_by o s.stale) (tellings_of s.told.items) next) (sym none)
            (subst (λ ts. IsServed n e (IsDone s.stale) ts next) (told-same alike memory.told) served_too);
      }

  -- ---- events that are refused
  reason : Refusal → Refusal
  reason r = reason_without (is_full_for (source left.config.roster e) e left.events left.config.budgets.events) r

  refused-left : (r : Refusal) → s.refused ≡ Some r → opens_slot e ≡ false
      → AreServedLeft i rest lost after left e (record s { refused = Some (reason r) })
  unfolding reason
  refused-left r is kept n stands =
      let here = whole i rest lost m left stood h n stands in
      let step = served.served here.0 here.1.stands in
      let refused = subst (λ o. IsServed here.0 e (ending_by o s.stale) (tellings_of s.told.items) step.0) is step.1 in
      let enough = λ (none : r ≡ NoMemory). memory.refused (is ∙ ap Some none) in
      let so = refused-by i rest lost here.0 n here.1.erased e r (tellings_of s.told.items) step.0 off kept refused enough in
      record {
        net = step.0;
        next = n;
        stands = step.2;
        erased = subst (λ x. IsErased i rest lost x n) (sym so.0) here.1.erased;
        is = is-of left n stands;
        served = subst (λ ts. IsServed n e (IsRefused (reason r)) ts n) (sym so.1)
            (subst
            (λ x. IsServed n e
            (IsRefused (reason_without (is_full_for (source x.roster e) e x.events x.budgets.events) r)) [] n)
            stands.is so.2);
      }

  never : (r : Refusal) → s.refused ≡ Some r → reason r ≡ NoMemory → ⊥
  unfolding reason
  never r is none =
      memory.refused
      (is ∙ ap Some (no-memory (is_full_for (source left.config.roster e) e left.events left.config.budgets.events) r none))

  not-opening : (e : Step) (r : Refusal) → IsNoRefusedOpening e s → s.refused ≡ Some r → opens_slot e ≡ false
  not-opening (Opens j) r kept is = cc
  not-opening (Closes j) r kept is = refl
  not-opening (Proposes j u x) r kept is = refl
  not-opening (Delivers u size said) r kept is = refl
  not-opening (Hears j u from kind k) r kept is = refl
  not-opening (NominationTimerFires j u n) r kept is = refl
  not-opening (BallotTimerFires j u n) r kept is = refl
  not-opening (Reslices j u q) r kept is = refl

  abbrev ServedToo : Type 0
  ServedToo =
      (after_too : Machine) × (t : Served) × IsStood after × IsErasedBy i rest lost after after_too × CameAs s t
      × IsServedBy left e after_too t

  served-too : IsNoRefusedOpening e s → HasRoomBy rest after → ServedToo
  served-too kept room = by s.refused refl
    where
      by : (o : Option Refusal) → s.refused ≡ o → ServedToo
      by None is =
          let all = served-left i rest lost m left e after s stood h served.slot (done-left is room) in
          (left_of left.config i lost after, s, all.0, all.1, inl refl, all.2)
      by (Some r) is =
          let t : Served = record s { refused = Some (reason r) } in
          let all = served-left i rest lost m left e after t stood h tt (refused-left r is (not-opening e r kept is)) in
          (left_of left.config i lost after, t, all.0, all.1, inr (r, reason r, is, never r is, refl), all.2)

pub erased_machines_serve_alike : ErasedMachinesServeAlike
erased_machines_serve_alike i rest lost m left e after s stood h off served kept memory room =
    served-too i rest lost m left e after s stood h off served memory kept room

-- ---- events at the slot
there-left : (i : ℕ) (rest lost : Drawn) (m left : Machine) (e : Step) (after : Machine) (s : Served) → IsStood m
    → is_step_at i e ≡ true → IsServedBy m e after s → IsErasedBy i (both_amounts (drawn m after) rest) lost m left
    → (n : Net) → StandsFor left n
    → (net : Net) × StandsFor after net × IsErased i rest (both_amounts lost (drawn m after)) net n
there-left i rest lost m left e after s stood on served h n stands =
    let here = whole i (both_amounts (drawn m after) rest) lost m left stood h n stands in
    let step = served.served here.0 here.1.stands in
    let same : drawn_in here.0 step.0 ≡ drawn m after =
    ap (λ x. drawn_in x step.0) here.1.stands.is ∙ ap (drawn_in (net_of m here.0.draws)) step.2.is in (
      step.0,
      step.2,
      subst (λ d. IsErased i rest (both_amounts lost d) step.0 n) same
          (events_there_are_erased i rest lost here.0 n e (ending_of s) (tellings_of s.told.items) step.0 on step.1
          (subst (λ d. IsErased i (both_amounts d rest) lost here.0 n) (sym same) here.1.erased)),
    )

pub machine_events_there_are_erased : MachineEventsThereAreErased
machine_events_there_are_erased i rest lost m left e after s stood on served h =
    let gone : Drawn = both_amounts lost (drawn m after) in
    let some = some-left i (both_amounts (drawn m after) rest) lost m left stood h in
    let one = there-left i rest lost m left e after s stood on served h some.0 some.1 in (
      left_of left.config i gone after,
      refl,
      (one.0.draws, one.1.tallied),
      erased-left left.config i rest gone after one.0 some.0 one.1 one.2 (is-of left some.0 some.1),
      λ n stands.
          let x = there-left i rest lost m left e after s stood on served h n stands in
          stands-left left.config i rest gone after x.0 n x.1 x.2 (is-of left n stands),
    )

-- ---- growth
-- the same machine with no less used up
pub record GrowsBy (m after : Machine) : Type 0 where
  pub nodes : after.config.nodes ≡ m.config.nodes
  pub budgets : after.config.budgets ≡ m.config.budgets
  pub roster : after.config.roster ≡ m.config.roster
  pub events : m.events ≤ after.events
  pub bytes : m.bytes ≤ after.bytes
  pub opens : m.opens ≤ after.opens

pub grows-by-none : (m : Machine) → GrowsBy m m
grows-by-none m = record {
  nodes = refl;
  budgets = refl;
  roster = refl;
  events = omega arith;
  bytes = omega arith;
  opens = omega arith;
}

pub grows-by-both : (m now after : Machine) → GrowsBy m now → GrowsBy now after → GrowsBy m after
grows-by-both m now after one two = record {
  nodes = two.nodes ∙ one.nodes;
  budgets = two.budgets ∙ one.budgets;
  roster = two.roster ∙ one.roster;
  events = omega (arith, one.events, two.events);
  bytes = omega (arith, one.bytes, two.bytes);
  opens = omega (arith, one.opens, two.opens);
}

-- what an event comes to stands for a network, and has used up no less
pub served-stood : (m : Machine) (e : Step) (after : Machine) (s : Served) → IsStood m → IsServedBy m e after s
    → IsStood after × GrowsBy m after
served-stood m e after s (draws, tallied) served =
    let step = served.served (net_of m draws) (record { is = refl; tallied = tallied }) in
    let grows = served-grows step.1 in
    let same = step.2.is in (
      (step.0.draws, step.2.tallied),
      record {
        nodes = sym (ap (λ x. x.nodes) same) ∙ grows.nodes;
        budgets = sym (ap (λ x. x.budgets) same) ∙ grows.budgets;
        roster = sym (ap (λ x. x.roster) same) ∙ grows.roster;
        events = subst (λ n. m.events ≤ n) (ap (λ x. x.events) same) grows.events;
        bytes = subst (λ n. m.bytes ≤ n) (ap (λ x. x.bytes) same) grows.bytes;
        opens = subst (λ n. m.opens ≤ n) (ap (λ x. x.opens) same) grows.opens;
      },
    )

pub room-before-by : (rest : Drawn) (m after : Machine) → GrowsBy m after → HasRoomBy rest after → HasRoomBy rest m
room-before-by rest m after grows room = record {
  events = let most = subst (λ b. after.events + rest.events ≤ b.events) grows.budgets room.events in
      omega (arith, grows.events);
  bytes = let most = subst (λ b. after.bytes + rest.bytes ≤ b.bytes) grows.budgets room.bytes in
      omega (arith, grows.bytes);
  opens = less-opens (m.opens + rest.opens) (after.opens + rest.opens) m.config.roster (omega (arith, grows.opens))
      (subst (HasOpensFor (after.opens + rest.opens)) grows.roster room.opens);
}

-- ---- bytes for all nodes
pub all-stood : (bytes : Bytes) {us : List ℕ} {m : Machine} {answers : List NodeAnswer} {after : Machine} → IsStood m
    → AreServed bytes us m answers after → IsStood after × GrowsBy m after
all-stood bytes {m = m} stood none_left = (stood, grows-by-none m)
all-stood bytes {m = m} {after = after} stood (next_node {now} a served others) =
    let here = served-stood m (step_of (Deliver a.node bytes)) now a.served stood served in
    let rest = all-stood bytes here.0 others in
    (rest.0, grows-by-both m now after here.1 rest.1)

all-served-too : (i : ℕ) (rest lost : Drawn) (bytes : Bytes) {us : List ℕ} {m : Machine} {answers : List NodeAnswer}
    {after : Machine} (left : Machine) → IsStood m → IsErasedBy i rest lost m left → is_reading_at i (reading bytes) ≡ false
    → AllByRecursion (λ a. HadMemoryToServe a.served) answers → HasRoomBy rest after → AreServed bytes us m answers after
    → (after_too : Machine) × (answers_too : List NodeAnswer) × IsStood after × IsErasedBy i rest lost after after_too
    × CameAllAs answers answers_too × AreServed bytes us left answers_too after_too
all-served-too i rest lost bytes left stood h off memory room none_left = (left, [], stood, h, none_came, none_left)
all-served-too i rest lost bytes {after = after} left stood h off memory room (next_node {old} {now} a served others) =
    let e : Step = step_of (Deliver a.node bytes) in
    let next = served-stood old e now a.served stood served in
    let room_now = room-before-by rest now after (all-stood bytes next.0 others).1 room in
    let here = erased_machines_serve_alike i rest lost old left e now a.served stood h off served tt memory.0 room_now in
    let more = all-served-too i rest lost bytes here.0 here.2 here.3 off memory.1 room others in (
      more.0,
      record { node = a.node; served = here.1 } ∷ more.1,
      more.2,
      more.3,
      next_came refl here.4 more.4,
      next_node (record { node = a.node; served = here.1 }) here.5 more.5,
    )

pub erased_machines_serve_all_alike : ErasedMachinesServeAllAlike
erased_machines_serve_all_alike i rest lost m left bytes us answers after stood h off served memory room =
    all-served-too i rest lost bytes left stood h off memory room served

-- what is drawn in turn
drawn-twice : (m now after : Machine) → GrowsBy m now → GrowsBy now after
    → both_amounts (drawn m now) (drawn now after) ≡ drawn m after
drawn-twice m now after one two =
    let events : (now.events - m.events) + (after.events - now.events) ≡ after.events - m.events =
    omega (arith, one.events, two.events) in
    let bytes : (now.bytes - m.bytes) + (after.bytes - now.bytes) ≡ after.bytes - m.bytes =
    omega (arith, one.bytes, two.bytes) in
    let opens : (now.opens - m.opens) + (after.opens - now.opens) ≡ after.opens - m.opens =
    omega (arith, one.opens, two.opens) in
    ap (λ n. drawn_as n ((now.bytes - m.bytes) + (after.bytes - now.bytes))
    ((now.opens - m.opens) + (after.opens - now.opens))) events
    ∙ ap (λ n. drawn_as (after.events - m.events) n ((now.opens - m.opens) + (after.opens - now.opens))) bytes
    ∙ ap (drawn_as (after.events - m.events) (after.bytes - m.bytes)) opens

none-lost : (n left lost : ℕ) → n ≡ left + lost → n ≡ left + (lost + (n - n))
none-lost n left lost is = omega arith

none-there : (i : ℕ) (rest lost : Drawn) (m left : Machine) → IsErasedBy i (both_amounts (drawn m m) rest) lost m left
    → IsErasedBy i rest (both_amounts lost (drawn m m)) m left
none-there i rest lost m left h = record {
  number = h.number;
  nodes = h.nodes;
  slots = h.slots;
  budgets = h.budgets ∙ ap (λ d. moved_budgets d left.config.budgets) (both-turn lost (drawn m m) rest);
  roster = h.roster ∙ ap (λ d. option_map (moved_roster d) left.config.roster) (both-turn lost (drawn m m) rest);
  events = none-lost m.events left.events lost.events h.events;
  bytes = none-lost m.bytes left.bytes lost.bytes h.bytes;
  opens = none-lost m.opens left.opens lost.opens h.opens;
}

all-there : (i : ℕ) (rest : Drawn) (bytes : Bytes) (lost : Drawn) {us : List ℕ} {m : Machine} {answers : List NodeAnswer}
    {after : Machine} (left : Machine) → IsStood m → is_reading_at i (reading bytes) ≡ true
    → IsErasedBy i (both_amounts (drawn m after) rest) lost m left → AreServed bytes us m answers after
    → (left_too : Machine) × (left_too.config ≡ left.config) × IsStood after
    × IsErasedBy i rest (both_amounts lost (drawn m after)) after left_too × StandsAsWell left left_too
all-there i rest bytes lost {m = m} left stood on h none_left =
    (left, refl, stood, none-there i rest lost m left h, λ net stands. stands)
all-there i rest bytes lost {m = m} {after = after} left stood on h (next_node {now} a served others) =
    let e : Step = step_of (Deliver a.node bytes) in
    let next = served-stood m e now a.served stood served in
    let grows = (all-stood bytes next.0 others).1 in
    let twice = drawn-twice m now after next.1 grows in
    let first = subst (λ d. IsErasedBy i d lost m left)
    (ap (λ d. both_amounts d rest) (sym twice) ∙ sym (both-turn (drawn m now) (drawn now after) rest)) h in
    let here = machine_events_there_are_erased i (both_amounts (drawn now after) rest) lost m left e now a.served stood on served
    first in
    let more = all-there i rest bytes (both_amounts lost (drawn m now)) here.0 here.2 on here.3 others in (
      more.0,
      more.1 ∙ here.1,
      more.2,
      subst (λ d. IsErasedBy i rest d after more.0)
          (sym (both-turn lost (drawn m now) (drawn now after)) ∙ ap (both_amounts lost) twice) more.3,
      λ net stands. more.4 net (here.4 net stands),
    )

pub all_machine_events_there_are_erased : AllMachineEventsThereAreErased
all_machine_events_there_are_erased i rest lost m left bytes us answers after stood on served h =
    all-there i rest bytes lost left stood on h served
