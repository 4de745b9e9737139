-- What an event's effect leaves as it is, beside the slots; and what each applied event keeps, a run keeps. `Runs`,
-- `Crowds`, and the crates `host_journal`, `host_network` and `line_run` stand on it.
use Rattle.scp_types.specs.declared.event.NodeEvent.{NodeEvent}
use Rattle.std.proofs.Common.{◌≡◌, ℕ, Bool, true, false, not, ◌==◌, Option, Some, None, List, [], ◌∷◌, ◌++◌, map, filter, if◌then◌else◌, cond, refl, ap}
use Rattle.std.proofs.lemmas.List.{map-append}
use Rattle.scp_types.specs.Statements.{Sent}
use Rattle.scp_spec.specs.Rosters.{Draw}
use Rattle.scp_spec.specs.Networks.{Slot, Instance, Net, Step, effect, act, act_in, act_known, emission, node_where_open, instances_at, draws_after_opening, source, size_of, tests, first_that, with_draw, state_and_reply, net_step}
use Rattle.scp_spec.specs.Hosts.{Entry}
use Rattle.scp_spec.specs.Runs.{net_after}
use Rattle.scp_types.specs.declared.event.Refusal.{Refusal}
use Rattle.scp_spec.specs.Networks.Reading.{Read, Fault}
use Rattle.scp_spec.specs.Networks.Step.{Opens, Closes, Proposes, Delivers, Hears, NominationTimerFires, BallotTimerFires, Reslices}

-- what an event leaves of the draws
abbrev pub left : Step → List Draw → List Draw
left (Opens j) ds = draws_after_opening j ds
left _ ds = ds

-- the open slots after an event
abbrev pub opened_after : Step → List ℕ → List ℕ
opened_after (Opens j) ns = ns ++ j ∷ []
opened_after (Closes j) ns = filter (λ n. not (n == j)) ns
opened_after _ ns = ns

abbrev pub numbers : List Slot → List ℕ
numbers ss = map (λ s. s.number) ss

-- a network with other slots and draws
pub record Keeps (net : Net) (open_slots : List ℕ) (kept_draws : List Draw) (next : Net) : Type 0 where
  pub number : next.number ≡ net.number
  pub nodes : next.nodes ≡ net.nodes
  pub budgets : next.budgets ≡ net.budgets
  pub roster : next.roster ≡ net.roster
  pub events : next.events ≡ net.events
  pub bytes : next.bytes ≡ net.bytes
  pub opens : next.opens ≡ net.opens
  pub draws : next.draws ≡ kept_draws
  pub slots : numbers next.slots ≡ open_slots

-- slots, with the instances of one changed
abbrev pub at_slot : (List Instance → List Instance) → ℕ → List Slot → List Slot
at_slot f i ss = map {B = Slot} (λ (s : Slot). if s.number == i then record s { instances = f s.instances } else s) ss

numbers-act : (f : List Instance → List Instance) (i : ℕ) (ss : List Slot) → numbers (at_slot f i ss) ≡ numbers ss
numbers-act f i [] = refl
numbers-act f i (s ∷ ss) = go (s.number == i) (numbers-act f i ss)
  where
    go : (b : Bool) → numbers (at_slot f i ss) ≡ numbers ss
        → (if b then record s { instances = f s.instances } else s).number ∷ numbers (at_slot f i ss)
        ≡ s.number ∷ numbers ss
    go true e = ap (λ ns. s.number ∷ ns) e
    go false e = ap (λ ns. s.number ∷ ns) e

numbers-drop : (i : ℕ) (ss : List Slot)
    → numbers (filter (λ s. not (s.number == i)) ss) ≡ filter (λ n. not (n == i)) (numbers ss)
numbers-drop i [] = refl
numbers-drop i (s ∷ ss) = go (not (s.number == i)) (numbers-drop i ss)
  where
    go : (b : Bool) → numbers (filter (λ s. not (s.number == i)) ss) ≡ filter (λ n. not (n == i)) (numbers ss)
        → numbers (cond b (s ∷ filter (λ s. not (s.number == i)) ss) (filter (λ s. not (s.number == i)) ss))
        ≡ cond b (s.number ∷ filter (λ n. not (n == i)) (numbers ss)) (filter (λ n. not (n == i)) (numbers ss))
    go true e = ap (λ ns. s.number ∷ ns) e
    go false e = e

keeps-slots : (net : Net) (next : List Slot) (ds : List Draw) (ns : List ℕ) → numbers next ≡ ns
    → Keeps net ns ds (record net { slots = next; draws = ds })
keeps-slots net next ds ns e =
    record {
      number = refl;
      nodes = refl;
      budgets = refl;
      roster = refl;
      events = refl;
      bytes = refl;
      opens = refl;
      draws = refl;
      slots = e;
    }

keeps-act : (net : Net) (i u : ℕ) (e : NodeEvent) → Keeps net (numbers net.slots) net.draws (act net i u e).0
unfolding act
keeps-act net i u e = keeps-slots net _ net.draws _ (numbers-act (act_in u e) i net.slots)

keeps-self : (net : Net) → Keeps net (numbers net.slots) net.draws net
keeps-self net = keeps-slots net net.slots net.draws _ refl

pub effect-keeps : (net : Net) (e : Step)
    → Keeps net (opened_after e (numbers net.slots)) (left e net.draws) (effect net e).0
unfolding effect
effect-keeps net (Opens j) = keeps-slots net _ (draws_after_opening j net.draws) _ (map-append (λ s. s.number) net.slots (_ ∷ []))
effect-keeps net (Closes j) = keeps-slots net _ net.draws _ (numbers-drop j net.slots)
effect-keeps net (Proposes j u x) = keeps-act net j u _
effect-keeps net (Delivers u size (Read e)) = keeps-act net e.slot u _
effect-keeps net (Delivers u size (Fault n)) = keeps-self net
effect-keeps net (Hears j u from kind k) = go (emission (node_where_open (instances_at net.slots j) from) kind k)
  where
    go : (o : Option Sent) → Keeps net (numbers net.slots) net.draws (act_known net j u o).0
    go None = keeps-self net
    go (Some e) = keeps-act net j u _
effect-keeps net (NominationTimerFires j u r) = keeps-act net j u _
effect-keeps net (BallotTimerFires j u n) = keeps-act net j u _
effect-keeps net (Reslices j u q) = keeps-act net j u _

-- the network after an event that is not refused
abbrev pub next : Net → Step → Net
next net e = with_draw (source net.roster e) (size_of e) (effect net e).0

-- what each such event keeps, a step keeps, which may be refused, and so does a run
module _ (P : Net → Type 0) (keeps : (net : Net) (e : Step) → first_that (tests net e) ≡ None → P net
    → P (next net e)) where
  pub net_step-keeps : (net : Net) (e : Step) → P net → P (net_step net e).0
  unfolding net_step
  net_step-keeps net e h = go (first_that (tests net e)) refl
    where
      go : (o : Option Refusal) → first_that (tests net e) ≡ o → P (state_and_reply net e o).0
      go (Some n) q = h
      go None q = keeps net e q h

  pub run-keeps : (xs : List Entry) (net : Net) → P net → P (net_after net xs)
  unfolding net_after
  run-keeps [] net h = h
  run-keeps (x ∷ xs) net h = run-keeps xs (net_step net x.event).0 (net_step-keeps net x.event h)
