-- What happens at a slot that is erased changes nothing of what is left, and no count falls.
use Rattle.std.specs.Prelude.{◌≡◌, ◌+◌, ◌-◌, ◌≤◌, ◌++◌, ◌==◌, not, ℕ, Bool, true, false, List, Option, Some, None, if◌then◌else◌, option_map}
use Rattle.std.proofs.Common.{◌∙◌, refl, sym, ap, subst, arith, true≢false}
use Rattle.std.proofs.lemmas.Bool.{eqb-true}
use Rattle.scp_types.specs.Statements.{Sent}
use Rattle.scp_types.specs.declared.event.NodeEvent.{NodeEvent}
use Rattle.scp_types.specs.declared.event.NodeEvent.TheVariants.{Propose, Take, NominationTimer, BallotTimer, Reslice}
use Rattle.scp_types.specs.declared.event.Refusal.{Refusal}
use Rattle.scp_spec.specs.Networks.{Net, Step, act, act_in, act_known, draws_after_opening, effect, emission, first_that, instances_at, instances_of_new_slot, net_step, node_where_open, on_budgets, on_opens, on_shares, size_of, source, state_and_reply, tests}
use Rattle.scp_spec.specs.Networks.Reading.{Fault, Read}
use Rattle.scp_spec.specs.Networks.Step.{BallotTimerFires, Closes, Delivers, Hears, NominationTimerFires, Opens, Proposes, Reslices}
use Rattle.scp_spec.specs.Rosters.{Draw, Roster, Share, Source, is_on, share_or_budgets}
use Rattle.scp_spec.specs.Rosters.Share.{Own, Pair}
use Rattle.scp_spec.specs.Rosters.Source.{OfBudgets, OfOpens, OfShare}
use Rattle.scp_spec.proofs.Networks.Drawn.{counted-next}
use Rattle.scp_spec.proofs.Networks.Effects.{at_slot, effect-keeps, next}
use Rattle.live_feed.specs.declared.answering.Drawn.{Drawn}
use Rattle.live_host.specs.Futures.{moved_budgets, moved_roster}
use Rattle.live_host.specs.Erasing.{HasOpensFor, HasRoomForMore, IsErased, StepsThereAreErased, both_amounts, drawn_in, draws_but, is_step_at, slots_but}
use Rattle.live_host.proofs.ErasedParts.{draws-there, filters-once, slots-act-there, slots-push-there}

-- ---- counts grow
-- the same network with no less used up
pub record Grows (net after : Net) : Type 0 where
  pub number : after.number ≡ net.number
  pub nodes : after.nodes ≡ net.nodes
  pub budgets : after.budgets ≡ net.budgets
  pub roster : after.roster ≡ net.roster
  pub events : net.events ≤ after.events
  pub bytes : net.bytes ≤ after.bytes
  pub opens : net.opens ≤ after.opens

pub grows-not : (net : Net) → Grows net net
grows-not net = record {
  number = refl;
  nodes = refl;
  budgets = refl;
  roster = refl;
  events = omega arith;
  bytes = omega arith;
  opens = omega arith;
}

pub grows-on : (net now after : Net) → Grows net now → Grows now after → Grows net after
grows-on net now after one two = record {
  number = two.number ∙ one.number;
  nodes = two.nodes ∙ one.nodes;
  budgets = two.budgets ∙ one.budgets;
  roster = two.roster ∙ one.roster;
  events = omega (arith, one.events, two.events);
  bytes = omega (arith, one.bytes, two.bytes);
  opens = omega (arith, one.opens, two.opens);
}

grown : (a b c : ℕ) → b ≡ a + c → a ≤ b
grown a b c is = omega arith

next-grows : (net : Net) (e : Step) → Grows net (next net e)
next-grows net e =
    let kept = effect-keeps net e in
    let count = counted-next net e in
    record {
      number = kept.number;
      nodes = kept.nodes;
      budgets = kept.budgets;
      roster = kept.roster;
      events = grown net.events (next net e).events (on_budgets (source net.roster e) 1) count.events;
      bytes = grown net.bytes (next net e).bytes (on_budgets (source net.roster e) (size_of e)) count.bytes;
      opens = grown net.opens (next net e).opens (on_opens (source net.roster e)) count.opens;
    }

pub step-grows : (net : Net) (e : Step) → Grows net (net_step net e).0
unfolding net_step
step-grows net e = by (first_that (tests net e))
  where
    by : (o : Option Refusal) → Grows net (state_and_reply net e o).0
    by None = next-grows net e
    by (Some r) = grows-not net

pub less-opens : (n m : ℕ) (r : Option Roster) → n ≤ m → HasOpensFor m r → HasOpensFor n r
less-opens n m None less room = tt
less-opens n m (Some r) less room = let most : m ≤ r.shares.opens = room in omega arith

-- what has room afterwards has it before
pub room-before : (rest : Drawn) (net after : Net) → Grows net after → HasRoomForMore rest after → HasRoomForMore rest net
room-before rest net after grows room = record {
  events = let most = subst (λ b. after.events + rest.events ≤ b.events) grows.budgets room.events in
      omega (arith, grows.events);
  bytes = let most = subst (λ b. after.bytes + rest.bytes ≤ b.bytes) grows.budgets room.bytes in
      omega (arith, grows.bytes);
  opens = less-opens (net.opens + rest.opens) (after.opens + rest.opens) net.roster (omega (arith, grows.opens))
      (subst (HasOpensFor (after.opens + rest.opens)) grows.roster room.opens);
}

-- ---- what happens at a slot
-- all that changes is at the slot
pub record HappensAt (i : ℕ) (net after : Net) : Type 0 where
  pub grows : Grows net after
  pub slots : slots_but i after.slots ≡ slots_but i net.slots
  pub draws : draws_but i after.draws ≡ draws_but i net.draws

pub nothing-happens : (i : ℕ) (net : Net) → HappensAt i net net
nothing-happens i net = record { grows = grows-not net; slots = refl; draws = refl }

pub happens-on : (i : ℕ) (net now after : Net) → HappensAt i net now → HappensAt i now after → HappensAt i net after
happens-on i net now after one two = record {
  grows = grows-on net now after one.grows two.grows;
  slots = two.slots ∙ one.slots;
  draws = two.draws ∙ one.draws;
}

act-there : (i j u : ℕ) (net : Net) (e : NodeEvent) → (i == j) ≡ true
    → (slots_but i (act net j u e).0.slots ≡ slots_but i net.slots)
    × (draws_but i (act net j u e).0.draws ≡ draws_but i net.draws)
unfolding act
act-there i j u net e on = (
  subst (λ k. slots_but i (at_slot (act_in u e) k net.slots) ≡ slots_but i net.slots) (eqb-true i j on)
      (slots-act-there (act_in u e) i net.slots),
  refl,
)

known-there : (i j u : ℕ) (net : Net) (o : Option Sent) → (i == j) ≡ true
    → (slots_but i (act_known net j u o).0.slots ≡ slots_but i net.slots)
    × (draws_but i (act_known net j u o).0.draws ≡ draws_but i net.draws)
known-there i j u net None on = (refl, refl)
known-there i j u net (Some e) on = act-there i j u net (Take e) on

effect-there : (i : ℕ) (net : Net) (e : Step) → is_step_at i e ≡ true
    → (slots_but i (effect net e).0.slots ≡ slots_but i net.slots)
    × (draws_but i (effect net e).0.draws ≡ draws_but i net.draws)
unfolding effect
effect-there i net (Opens j) on = (
  slots-push-there i j net.slots (instances_of_new_slot net.nodes j) on,
  subst (λ k. draws_but i (draws_after_opening k net.draws) ≡ draws_but i net.draws) (eqb-true i j on)
      (filters-once (λ d. not (d.slot == i)) net.draws),
)
effect-there i net (Closes j) on = (
  subst (λ k. slots_but i (slots_but k net.slots) ≡ slots_but i net.slots) (eqb-true i j on)
      (filters-once (λ s. not (s.number == i)) net.slots),
  refl,
)
effect-there i net (Proposes j u x) on = act-there i j u net (Propose x) on
effect-there i net (Delivers u size (Read e)) on = act-there i e.slot u net (Take e) on
effect-there i net (Delivers u size (Fault n)) on = absurd (true≢false (sym on))
effect-there i net (Hears j u from kind k) on =
    known-there i j u net (emission (node_where_open (instances_at net.slots j) from) kind k) on
effect-there i net (NominationTimerFires j u r) on = act-there i j u net (NominationTimer r) on
effect-there i net (BallotTimerFires j u n) on = act-there i j u net (BallotTimer n) on
effect-there i net (Reslices j u q) on = act-there i j u net (Reslice q) on

-- a share is one of the slot
abbrev IsThere : ℕ → Source → Type 0
IsThere i OfBudgets = Unit {0}
IsThere i (OfOpens shares) = Unit {0}
IsThere i (OfShare shares j s) = (i == j) ≡ true

share-there : (i : ℕ) (r : Roster) (j : ℕ) (s : Share) → (i == j) ≡ true → IsThere i (share_or_budgets r j s)
share-there i r j s on = by (is_on r.names s)
  where
    by : (b : Bool) → IsThere i (if b then OfShare r.shares j s else OfBudgets)
    by true = on
    by false = tt

source-there : (i : ℕ) (r : Option Roster) (e : Step) → is_step_at i e ≡ true → IsThere i (source r e)
source-there i None e on = tt
source-there i (Some r) (Opens j) on = tt
source-there i (Some r) (Closes j) on = tt
source-there i (Some r) (Proposes j u x) on = share-there i r j (Own u) on
source-there i (Some r) (Delivers u size (Read e)) on = share-there i r e.slot (Pair u e.sender) on
source-there i (Some r) (Delivers u size (Fault n)) on = tt
source-there i (Some r) (Hears j u from kind k) on = share-there i r j (Pair u from) on
source-there i (Some r) (NominationTimerFires j u n) on = share-there i r j (Own u) on
source-there i (Some r) (BallotTimerFires j u n) on = share-there i r j (Own u) on
source-there i (Some r) (Reslices j u q) on = share-there i r j (Own u) on

on-shares-there : (i : ℕ) (s : Source) (size : ℕ) (ds : List Draw) → IsThere i s
    → draws_but i (on_shares s size ++ ds) ≡ draws_but i ds
on-shares-there i OfBudgets size ds there = refl
on-shares-there i (OfOpens shares) size ds there = refl
on-shares-there i (OfShare shares j s) size ds there = draws-there i j s size ds there

pub step-happens : (i : ℕ) (net : Net) (e : Step) → is_step_at i e ≡ true → HappensAt i net (net_step net e).0
unfolding net_step
step-happens i net e on = by (first_that (tests net e))
  where
    by : (o : Option Refusal) → HappensAt i net (state_and_reply net e o).0
    by None = record {
      grows = next-grows net e;
      slots = (effect-there i net e on).0;
      draws = on-shares-there i (source net.roster e) (size_of e) (effect net e).0.draws (source-there i net.roster e on)
          ∙ (effect-there i net e on).1;
    }
    by (Some r) = nothing-happens i net

-- ---- what is left
abbrev pub drawn_as : ℕ → ℕ → ℕ → Drawn
drawn_as events bytes opens = record { events = events; bytes = bytes; opens = opens }

turned : (a b c : ℕ) → a + (b + c) ≡ (a + b) + c
turned a b c = omega arith

pub both-turn : (a b c : Drawn) → both_amounts a (both_amounts b c) ≡ both_amounts (both_amounts a b) c
both-turn a b c =
    ap (λ n. drawn_as n (a.bytes + (b.bytes + c.bytes)) (a.opens + (b.opens + c.opens))) (turned a.events b.events c.events)
    ∙ ap (λ n. drawn_as ((a.events + b.events) + c.events) n (a.opens + (b.opens + c.opens)))
    (turned a.bytes b.bytes c.bytes)
    ∙ ap (drawn_as ((a.events + b.events) + c.events) ((a.bytes + b.bytes) + c.bytes)) (turned a.opens b.opens c.opens)

lost-more : (left net after lost : ℕ) → net ≡ left + lost → net ≤ after → after ≡ left + (lost + (after - net))
lost-more left net after lost is less = omega arith

-- what happens at the slot changes nothing of what is left
pub erased-there : (i : ℕ) (rest lost : Drawn) (net after left : Net) → HappensAt i net after
    → IsErased i (both_amounts (drawn_in net after) rest) lost net left → IsErased i rest (both_amounts lost (drawn_in net after)) after left
erased-there i rest lost net after left happens h = record {
  number = h.number ∙ sym happens.grows.number;
  nodes = h.nodes ∙ sym happens.grows.nodes;
  slots = h.slots ∙ sym happens.slots;
  draws = h.draws ∙ sym happens.draws;
  budgets = happens.grows.budgets ∙ h.budgets
      ∙ ap (λ d. moved_budgets d left.budgets) (both-turn lost (drawn_in net after) rest);
  roster = happens.grows.roster ∙ h.roster
      ∙ ap (λ d. option_map (moved_roster d) left.roster) (both-turn lost (drawn_in net after) rest);
  events = lost-more left.events net.events after.events lost.events h.events happens.grows.events;
  bytes = lost-more left.bytes net.bytes after.bytes lost.bytes h.bytes happens.grows.bytes;
  opens = lost-more left.opens net.opens after.opens lost.opens h.opens happens.grows.opens;
}

pub steps_there_are_erased : StepsThereAreErased
steps_there_are_erased i rest lost net left e on h =
    erased-there i rest lost net (net_step net e).0 left (step-happens i net e on) h
