-- What a fresh instance has and each step keeps, each instance in a network's run has; so events lead to each node
-- there. The law `four_passes_are_enough` and `Sending` stand on it.
use Rattle.scp_types.specs.declared.event.NodeEvent.{NodeEvent}
use Rattle.std.proofs.Common.{ℕ, Bool, true, false, not, cond, ◌==◌, Option, Some, None, List, [], ◌∷◌, ◌++◌, filter, if◌then◌else◌}
use Rattle.scp_types.specs.Statements.{Sent}
use Rattle.scp_types.specs.declared.event.NodeEvent.TheVariants.{Propose, Take, NominationTimer, BallotTimer, Reslice}
use Rattle.scp_spec.specs.Networks.{Net, Slot, Instance, HostedNode, Step, after_event, act_in, act, act_known, instances_of_new_slot, effect, emission, node_where_open, instances_at}
use Rattle.scp_spec.specs.Networks.Step.{Opens, Closes, Proposes, Delivers, Hears, NominationTimerFires, BallotTimerFires, Reslices}
use Rattle.scp_spec.specs.Networks.Reading.{Read, Fault}
use Rattle.scp_spec.specs.Nodes.{fresh}
use Rattle.scp_spec.specs.Limits.{ComesOfEvents, RunsComeOfEvents}
use Rattle.scp_spec.specs.Limits.ComesOfEvents.{begin, next}
use Rattle.scp_spec.proofs.Networks.Effects.{at_slot, run-keeps}
use Rattle.std.specs.List.{AllByRecursion}
use Rattle.scp_spec.specs.Runs.{net_after}
use Rattle.scp_spec.specs.Hosts.{Entry, new_net}

module _ (P : Instance → Type 0) (new : (i : ℕ) (h : HostedNode) → P (record { node = fresh i h.name h.slices; emitted = [] }))
    (more : (e : NodeEvent) (p : Instance) → P p → P (after_event e p)) where
  abbrev AllAt : List Instance → Type 0
  AllAt ps = AllByRecursion P ps

  abbrev AllSlots : List Slot → Type 0
  AllSlots ss = AllByRecursion (λ s. AllByRecursion P s.instances) ss

  instances_of_new_slot-all : (nodes : List HostedNode) (i : ℕ) → AllAt (instances_of_new_slot nodes i)
  unfolding instances_of_new_slot
  instances_of_new_slot-all [] i = tt
  instances_of_new_slot-all (h ∷ hs) i = (new i h, instances_of_new_slot-all hs i)

  act_in-all : (u : ℕ) (e : NodeEvent) (ps : List Instance) → AllAt ps → AllAt (act_in u e ps)
  act_in-all u e [] h = tt
  act_in-all u e (p ∷ ps) h = (one (p.node.name == u), act_in-all u e ps h.1)
    where
      one : (b : Bool) → P (if b then after_event e p else p)
      one true = more e p h.0
      one false = h.0

  act-all : (net : Net) (i u : ℕ) (e : NodeEvent) → AllSlots net.slots → AllSlots (act net i u e).0.slots
  unfolding act
  act-all net i u e h = each net.slots h
    where
      each : (ss : List Slot) → AllSlots ss → AllSlots (at_slot (act_in u e) i ss)
      each [] h = tt
      each (s ∷ ss) h = (one (s.number == i), each ss h.1)
        where
          one : (b : Bool) → AllAt (if b then record s { instances = act_in u e s.instances } else s).instances
          one true = act_in-all u e s.instances h.0
          one false = h.0

  push-all : (ss : List Slot) (s : Slot) → AllSlots ss → AllAt s.instances → AllSlots (ss ++ s ∷ [])
  push-all [] s h k = (k, tt)
  push-all (x ∷ xs) s h k = (h.0, push-all xs s h.1 k)

  filter-all : (p : Slot → Bool) (ss : List Slot) → AllSlots ss → AllSlots (filter p ss)
  filter-all p [] h = tt
  filter-all p (s ∷ ss) h = go (p s) (filter-all p ss h.1)
    where
      go : (b : Bool) → AllSlots (filter p ss) → AllSlots (cond b (s ∷ filter p ss) (filter p ss))
      go true k = (h.0, k)
      go false k = k

  effect-all : (net : Net) (e : Step) → AllSlots net.slots → AllSlots (effect net e).0.slots
  unfolding effect
  effect-all net (Opens i) h =
      push-all net.slots (record { number = i; instances = instances_of_new_slot net.nodes i }) h
      (instances_of_new_slot-all net.nodes i)
  effect-all net (Closes i) h = filter-all (λ s. not (s.number == i)) net.slots h
  effect-all net (Proposes i u x) h = act-all net i u (Propose x) h
  effect-all net (Delivers u size (Read e)) h = act-all net e.slot u (Take e) h
  effect-all net (Delivers u size (Fault n)) h = h
  effect-all net (Hears i u from kind k) h = heard (emission (node_where_open (instances_at net.slots i) from) kind k)
    where
      heard : (o : Option Sent) → AllSlots (act_known net i u o).0.slots
      heard None = h
      heard (Some e) = act-all net i u (Take e) h
  effect-all net (NominationTimerFires i u r) h = act-all net i u (NominationTimer r) h
  effect-all net (BallotTimerFires i u n) h = act-all net i u (BallotTimer n) h
  effect-all net (Reslices i u q) h = act-all net i u (Reslice q) h

  pub run-all : (net : Net) (entries : List Entry) → AllSlots net.slots → AllSlots (net_after net entries).slots
  run-all net entries h = run-keeps (λ n. AllSlots n.slots) (λ n e q k. effect-all n e k) entries net h

after_event-comes : (e : NodeEvent) (p : Instance) → ComesOfEvents p.node → ComesOfEvents (after_event e p).node
unfolding after_event
after_event-comes e p r = next r e

pub runs_come_of_events : RunsComeOfEvents
runs_come_of_events config before =
    run-all (λ p. ComesOfEvents p.node) (λ i h. begin i h.name h.slices) after_event-comes (new_net config) before tt
