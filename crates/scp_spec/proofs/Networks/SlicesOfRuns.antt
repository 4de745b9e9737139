-- The slices of a node at a slot are those that a run gave it last. The law `slices_follow_events` and the crate
-- `host_journal` stand on it.
use Rattle.scp_types.specs.declared.event.Refusal.{Refusal}
use Rattle.scp_types.specs.declared.event.NodeEvent.{NodeEvent}
use Rattle.scp_types.specs.declared.event.NodeEvent.TheVariants.{Propose, Take, NominationTimer, BallotTimer, Reslice}
use Rattle.std.proofs.Common.{◌≡◌, ℕ, Bool, true, false, not, ◌&&◌, ◌==◌, Option, Some, None, List, [], ◌∷◌, ◌++◌, map, filter, option_map, if◌then◌else◌, refl, sym, ◌∙◌, ap, subst, inl, inr}
use Rattle.std.proofs.lemmas.Bool.{cases_Bool, and_parts, and_from, true≢false, eqb-true, eq-eqb}
use Rattle.scp_types.specs.Trees.{Slices}
use Rattle.scp_types.specs.Statements.{Sent}
use Rattle.std.proofs.lemmas.Option.{none-some}
use Rattle.scp_spec.specs.Nodes.{fresh}
use Rattle.scp_spec.specs.Limits.{ComesOfEvents}
use Rattle.scp_spec.specs.Limits.ComesOfEvents.{begin, next}
use Rattle.scp_spec.specs.Networks.{Net, Step, Instance, Slot, slices_of, instances_at, node_where_open, emission, after_event, act, act_known, instances_of_new_slot, draws_after_opening, effect, source, size_of, tests, first_that, with_draw, state_and_reply, net_step}
use Rattle.scp_spec.specs.Networks.Reading.{Read, Fault}
use Rattle.scp_spec.specs.Networks.Step.{Opens, Closes, Proposes, Delivers, Hears, NominationTimerFires, BallotTimerFires, Reslices}
use Rattle.scp_spec.specs.Hosts.{Entry, journal_with, journal, new_net}
use Rattle.scp_spec.specs.Runs.{net_after}
use Rattle.scp_spec.specs.Reslices.{slices_after, slices_next, slices_since, SlicesFollowRuns}
use Rattle.scp_spec.proofs.Networks.Effects.{effect-keeps}
use Rattle.scp_spec.proofs.Runs.Sights.{node_where_open-same, node_where_open-other, node_where_open-elsewhere}
use Rattle.scp_spec.proofs.Runs.Events.{IsNew}
use Rattle.scp_spec.proofs.Networks.OpenSlots.{instances_at-push, instances_at-push_other, instances_at-drop, instances_at-drop_other}
use Rattle.scp_spec.proofs.Runs.Openings.{node_named-opened}
use Rattle.scp_spec.proofs.Runs.KeptSteps.{is_new}
use Rattle.scp_spec.proofs.Networks.Journals.{runs_are_journals}
use Rattle.scp_spec.proofs.Nodes.Reslices.{slices_follow_events}

module _ (i u : ℕ) (q : Slices) where
  -- wherever the node is at the slot, it has these slices, and events led to it
  abbrev Has : Slices → Net → Type 0
  Has now net =
      (p : Instance) → node_where_open (instances_at net.slots i) u ≡ Some p → (p.node.slices ≡ now) × ComesOfEvents p.node

  -- a step of another node, or at another slot
  has-other : (now : Slices) (net : Net) (j w : ℕ) (e : NodeEvent) → ((j == i) && (w == u)) ≡ false → Has now net
      → Has now (act net j w e).0
  has-other now net j w e o h p k = elim (cases_Bool (j == i)) [
    | inr n ↦ h p (sym (node_where_open-elsewhere net j i w u e n) ∙ k)
    | inl y ↦ h p (sym (node_where_open-other net i w u e (elim (cases_Bool (u == w)) [
      | inl z ↦ absurd (true≢false (sym (and_from (j == i) (w == u) y (eq-eqb w u (sym (eqb-true u w z)))) ∙ o))
      | inr n ↦ n
    ])) ∙ subst (λ x. node_where_open (instances_at (act net x w e).0.slots i) u ≡ Some p) (eqb-true j i y) k)
  ]

  -- a step of the node
  has-own : (now : Slices) (net : Net) (e : NodeEvent) → Has now net → Has (slices_after e now) (act net i u e).0
  unfolding after_event
  has-own now net e h p k =
      go (node_where_open (instances_at net.slots i) u) refl (sym (node_where_open-same net i u e) ∙ k)
    where
      go : (o : Option Instance) → node_where_open (instances_at net.slots i) u ≡ o → option_map (after_event e) o ≡ Some p
          → (p.node.slices ≡ slices_after e now) × ComesOfEvents p.node
      go None x y = cc
      go (Some m) x y =
          let same : after_event e m ≡ p = cc in
          let a = h m x in
          subst (λ (z : Instance). (z.node.slices ≡ slices_after e now) × ComesOfEvents z.node) same
          (slices_follow_events m.node a.1 e ∙ ap (slices_after e) a.0, next a.1 e)

  -- any step
  has-act : (now : Slices) (net : Net) (j w : ℕ) (e : NodeEvent) → Has now net
      → Has (if (j == i) && (w == u) then slices_after e now else now) (act net j w e).0
  has-act now net j w e h = go ((j == i) && (w == u)) refl
    where
      go : (b : Bool) → ((j == i) && (w == u)) ≡ b → Has (if b then slices_after e now else now) (act net j w e).0
      go false o = has-other now net j w e o h
      go true y =
          let p = and_parts (j == i) (w == u) y in
          subst (λ x. Has (slices_after e now) (act net x w e).0) (sym (eqb-true j i p.0))
          (subst (λ x. Has (slices_after e now) (act net i x e).0) (sym (eqb-true w u p.1)) (has-own now net e h))

  -- one that gives no slices
  has-still : (now : Slices) (net : Net) (j w : ℕ) (e : NodeEvent) → slices_after e now ≡ now → Has now net
      → Has now (act net j w e).0
  has-still now net j w e s h =
      subst (λ (x : Slices). Has x (act net j w e).0) (same ((j == i) && (w == u))) (has-act now net j w e h)
    where
      same : (b : Bool) → (if b then slices_after e now else now) ≡ now
      same true = s
      same false = refl

  -- opening the slot, or another one
  has-opened : (now : Slices) (net : Net) (j : ℕ) → slices_of net.nodes u ≡ Some q
      → instances_at net.slots j ≡ None → Has now net
      → Has (if j == i then q else now)
      (record net {
        slots = net.slots ++ record { number = j; instances = instances_of_new_slot net.nodes j } ∷ [];
        draws = draws_after_opening j net.draws;
      })
  unfolding fresh
  has-opened now net j hosted n h = go (j == i) refl
    where
      slot : Slot
      slot = record { number = j; instances = instances_of_new_slot net.nodes j }

      go : (b : Bool) → (j == i) ≡ b
          → Has (if b then q else now) (record net { slots = net.slots ++ slot ∷ []; draws = draws_after_opening j net.draws })
      go false o p k = h p (ap (λ x. node_where_open x u) (sym (instances_at-push_other net.slots slot i o)) ∙ k)
      go true y p k =
          let there : node_where_open (instances_at (net.slots ++ slot ∷ []) i) u
          ≡ option_map (λ x. record { node = fresh j u x; emitted = [] }) (slices_of net.nodes u) =
          ap (λ x. node_where_open x u)
          (instances_at-push net.slots slot i y (ap (instances_at net.slots) (sym (eqb-true j i y)) ∙ n))
          ∙ node_named-opened net.nodes j u in
          let same : ◌≡◌ {A = Option Instance} (Some (record { node = fresh j u q; emitted = [] })) (Some p) =
          ap (option_map (λ (x : Slices). record { node = fresh j u x; emitted = [] })) (sym hosted)
          ∙ (sym there ∙ k) in
          let is : record { node = fresh j u q; emitted = [] } ≡ p = cc in
          subst (λ (z : Instance). (z.node.slices ≡ q) × ComesOfEvents z.node) is (refl, begin j u q)

  -- closing the slot, or another one
  has-closed : (now : Slices) (net : Net) (j : ℕ) → Has now net
      → Has (if j == i then q else now) (record net { slots = filter (λ s. not (s.number == j)) net.slots })
  has-closed now net j h = go (j == i) refl
    where
      go : (b : Bool) → (j == i) ≡ b
          → Has (if b then q else now) (record net { slots = filter (λ s. not (s.number == j)) net.slots })
      go false o p k = h p (ap (λ x. node_where_open x u) (sym (instances_at-drop_other net.slots j i o)) ∙ k)
      go true y p k =
          absurd (none-some p (sym (ap (λ x. node_where_open x u)
          (ap (λ x. instances_at (filter (λ s. not (s.number == x)) net.slots) i) (eqb-true j i y)
          ∙ instances_at-drop net.slots i)) ∙ k))

  -- each applied event
  has-effect : (now : Slices) (net : Net) (e : Step) → slices_of net.nodes u ≡ Some q → IsNew net e → Has now net
      → Has (slices_next i u q now e) (effect net e).0
  unfolding effect
  has-effect now net (Opens j) hosted n h = has-opened now net j hosted n h
  has-effect now net (Closes j) hosted n h = has-closed now net j h
  has-effect now net (Proposes j w x) hosted n h = has-still now net j w (Propose x) refl h
  has-effect now net (Delivers w size (Read e)) hosted n h = has-still now net e.slot w (Take e) refl h
  has-effect now net (Delivers w size (Fault f)) hosted n h = h
  has-effect now net (Hears j w from kind k) hosted n h =
      go (emission (node_where_open (instances_at net.slots j) from) kind k)
    where
      go : (o : Option Sent) → Has now (act_known net j w o).0
      go None = h
      go (Some e) = has-still now net j w (Take e) refl h
  has-effect now net (NominationTimerFires j w r) hosted n h = has-still now net j w (NominationTimer r) refl h
  has-effect now net (BallotTimerFires j w c) hosted n h = has-still now net j w (BallotTimer c) refl h
  has-effect now net (Reslices j w new) hosted n h = has-act now net j w (Reslice new) h

  -- a whole journal
  has-run : (es : List Step) (net : Net) (now : Slices) → slices_of net.nodes u ≡ Some q → Has now net
      → Has (slices_since i u q now (journal net es)) (net_after net (journal net es))
  unfolding journal net_step net_after slices_since
  has-run [] net now hosted h = h
  has-run (e ∷ es) net now hosted h = go (first_that (tests net e)) refl (λ n x. has-run es n x)
    where
      Claim : Net → Slices → List Entry → Type 0
      Claim n x run = Has (slices_since i u q x run) (net_after n run)

      go : (o : Option Refusal) → first_that (tests net e) ≡ o
          → ((n : Net) (x : Slices) → slices_of n.nodes u ≡ Some q → Has x n → Claim n x (journal n es))
          → Claim net now (journal_with e (state_and_reply net e o).1 (journal (state_and_reply net e o).0 es))
      go (Some r) z ih = ih net now hosted h
      go None z ih =
          let after : Net = with_draw (source net.roster e) (size_of e) (effect net e).0 in
          let run = journal after es in
          let now_then = slices_next i u q now e in
          subst (λ (n : Net). Has (slices_since i u q now_then run) n)
          (ap (λ o. net_after (state_and_reply net e o).0 run) (sym z))
          (ih after now_then (ap (λ hs. slices_of hs u) (effect-keeps net e).nodes ∙ hosted)
          (has-effect now net e hosted (is_new net e z) h))

pub slices_follow_runs : SlicesFollowRuns
slices_follow_runs config run i u q p is hosted k =
    let net : Net = new_net config in
    let events = map (λ (x : Entry). x.event) run in
    let same : run ≡ journal net events = runs_are_journals config run is in
    (subst (λ (es : List Entry). Has i u q (slices_since i u q q es) (net_after net es)) (sym same)
    (has-run i u q events net q hosted (λ p k. absurd (none-some p k))) p k).0
