-- The slices of a node at a slot after a run: those of the node there where the slot is open, else the configured ones.
use Rattle.std.proofs.Common.{◌≡◌, ℕ, Bool, true, false, not, ◌&&◌, ◌||◌, ◌==◌, Option, Some, None, is_some, List, [], ◌∷◌, ◌++◌, map, filter, option_map, if◌then◌else◌, refl, sym, ◌∙◌, ap, subst}
use Rattle.std.specs.List.{list_any}
use Rattle.std.proofs.lemmas.Bool.{and_parts, eqb-true, false≢true}
use Rattle.scp_types.specs.Trees.{Slices}
use Rattle.scp_types.specs.declared.event.Refusal.{Refusal}
use Rattle.scp_types.specs.declared.event.Refusal.TheVariants.{NoSuchNode, SlotNotOpen}
use Rattle.scp_spec.specs.Networks.{Net, Instance, Slot, Step, with_draw, effect, first_that, room_test, is_hosted, is_open, node_where_open, net_step, instances_of_new_slot, instances_at, state_and_reply, size_of, slices_of, source, tests}
use Rattle.scp_spec.specs.Networks.Step.{Opens, Closes, Proposes, Delivers, Hears, NominationTimerFires, BallotTimerFires, Reslices}
use Rattle.scp_spec.specs.Hosts.{Config, Entry, journal_with, journal, new_net}
use Rattle.scp_spec.specs.Runs.{IsRun, net_after, state_of}
use Rattle.scp_spec.specs.Reslices.{slices_at_end, slices_next, slices_since}
use Rattle.scp_spec.proofs.Networks.Effects.{effect-keeps, numbers, opened_after}
use Rattle.scp_spec.proofs.Networks.OpenSlots.{instances_at-drop_other, instances_at-push_other}
use Rattle.scp_spec.proofs.Networks.Journals.{runs_are_journals}
use Rattle.scp_spec.proofs.Networks.SlicesOfRuns.{slices_follow_runs}
use Rattle.host_closure.specs.Announcing.{slices_then}
use Rattle.host_network.specs.Standing.{slices_of_node}

-- ---- open slots
-- a slot is open where its number is among those of the open ones
pub open-numbers : (ss : List Slot) (i : ℕ) → is_some (instances_at ss i) ≡ list_any (λ n. n == i) (numbers ss)
open-numbers [] i = refl
open-numbers (s ∷ ss) i = go (s.number == i) (open-numbers ss i)
  where
    go : (b : Bool) → is_some (instances_at ss i) ≡ list_any (λ n. n == i) (numbers ss) → is_some (if b then Some s.instances else instances_at ss i) ≡ (b || list_any (λ n. n == i) (numbers ss))
    go true h = refl
    go false h = h

-- an event that neither opens nor closes a slot leaves open what is open
still-open : (net : Net) (e : Step) (i : ℕ) → opened_after e (numbers net.slots) ≡ numbers net.slots → is_open (effect net e).0 i ≡ is_open net i
still-open net e i same = open-numbers (effect net e).0.slots i ∙ ap (list_any (λ n. n == i)) ((effect-keeps net e).slots ∙ same) ∙ sym (open-numbers net.slots i)

-- new slices that nothing refuses come to an open slot
open-there : (net : Net) (j w : ℕ) (new : Slices) → first_that (tests net (Reslices j w new)) ≡ None → is_open net j ≡ true
open-there net j w new h = go (is_hosted net w) (is_open net j) (first_that (room_test net (source net.roster (Reslices j w new)) ∷ [])) h
  where
    go : (a b : Bool) (o : Option Refusal) → (if not a then Some NoSuchNode else if not b then Some SlotNotOpen else o) ≡ None → b ≡ true
    go true true o k = refl
    go true false o k = absurd (cc)
    go false b o k = absurd (cc)

module _ (i u : ℕ) (q : Slices) where
  -- where the slot is not open, these are the configured slices
  abbrev Rests : Slices → Net → Type 0
  Rests now net = is_open net i ≡ false → now ≡ q

  -- each applied event
  rests-effect : (now : Slices) (net : Net) (e : Step) → first_that (tests net e) ≡ None → Rests now net → Rests (slices_next i u q now e) (effect net e).0
  unfolding effect
  rests-effect now net (Opens j) free h = go (j == i) refl
    where
      slot : Slot
      slot = record { number = j; instances = instances_of_new_slot net.nodes j }

      go : (b : Bool) → (j == i) ≡ b → is_some (instances_at (net.slots ++ slot ∷ []) i) ≡ false → (if b then q else now) ≡ q
      go true y k = refl
      go false o k = h (ap is_some (sym (instances_at-push_other net.slots slot i o)) ∙ k)
  rests-effect now net (Closes j) free h = go (j == i) refl
    where
      go : (b : Bool) → (j == i) ≡ b → is_some (instances_at (filter (λ s. not (s.number == j)) net.slots) i) ≡ false → (if b then q else now) ≡ q
      go true y k = refl
      go false o k = h (ap is_some (sym (instances_at-drop_other net.slots j i o)) ∙ k)
  rests-effect now net (Proposes j w x) free h = λ k. h (sym (still-open net (Proposes j w x) i refl) ∙ k)
  rests-effect now net (Delivers w size d) free h = λ k. h (sym (still-open net (Delivers w size d) i refl) ∙ k)
  rests-effect now net (Hears j w from kind n) free h = λ k. h (sym (still-open net (Hears j w from kind n) i refl) ∙ k)
  rests-effect now net (NominationTimerFires j w r) free h = λ k. h (sym (still-open net (NominationTimerFires j w r) i refl) ∙ k)
  rests-effect now net (BallotTimerFires j w n) free h = λ k. h (sym (still-open net (BallotTimerFires j w n) i refl) ∙ k)
  rests-effect now net (Reslices j w new) free h = λ k. go ((j == i) && (w == u)) refl (sym (still-open net (Reslices j w new) i refl) ∙ k)
    where
      go : (b : Bool) → ((j == i) && (w == u)) ≡ b → is_open net i ≡ false → (if b then new else now) ≡ q
      go true y closed =
          let at = eqb-true j i (and_parts (j == i) (w == u) y).0 in
          absurd (false≢true (sym closed ∙ ap (is_open net) (sym at) ∙ open-there net j w new free))
      go false o closed = h closed

  -- a whole journal
  rests-run : (es : List Step) (net : Net) (now : Slices) → Rests now net → Rests (slices_since i u q now (journal net es)) (net_after net (journal net es))
  unfolding journal net_step net_after slices_since
  rests-run [] net now h = h
  rests-run (e ∷ es) net now h = go (first_that (tests net e)) refl (λ n x. rests-run es n x)
    where
      Claim : Net → Slices → List Entry → Type 0
      Claim n x run = Rests (slices_since i u q x run) (net_after n run)

      go : (o : Option Refusal) → first_that (tests net e) ≡ o → ((n : Net) (x : Slices) → Rests x n → Claim n x (journal n es)) → Claim net now (journal_with e (state_and_reply net e o).1 (journal (state_and_reply net e o).0 es))
      go (Some r) z ih = ih net now h
      go None z ih =
          let after : Net = with_draw (source net.roster e) (size_of e) (effect net e).0 in
          let run = journal after es in
          let now_then = slices_next i u q now e in
          subst (λ (n : Net). Rests (slices_since i u q now_then run) n) (ap (λ o. net_after (state_and_reply net e o).0 run) (sym z)) (ih after now_then (rests-effect now net e z h))

-- after a run that leaves the slot closed, the slices are the configured ones
closed-then : (config : Config) (run : List Entry) (i u : ℕ) (q : Slices) → IsRun config run → is_open (state_of config run) i ≡ false → slices_at_end i u q run ≡ q
closed-then config run i u q is closed =
    let net : Net = new_net config in
    let events = map (λ (x : Entry). x.event) run in
    let same : run ≡ journal net events = runs_are_journals config run is in
    subst (λ (es : List Entry). Rests i u q (slices_since i u q q es) (net_after net es)) (sym same) (rests-run i u q events net q (λ k. refl)) closed

-- ---- as they are looked up
-- those of the node at an open slot are its slices then
pub open_then : (config : Config) (run : List Entry) (i u : ℕ) (now : Slices) → IsRun config run → Some now ≡ slices_of_node (state_of config run) i u → true ≡ (is_open (state_of config run) i && is_some (slices_of config.nodes u)) → Some now ≡ slices_then config.nodes i run u
open_then config run i u now is there hosted = go (slices_of config.nodes u) (node_where_open (instances_at (state_of config run).slots i) u) refl refl there hosted
  where
    go : (o : Option Slices) (p : Option Instance) → slices_of config.nodes u ≡ o → node_where_open (instances_at (state_of config run).slots i) u ≡ p → Some now ≡ option_map (λ x. x.node.slices) p → true ≡ (is_open (state_of config run) i && is_some o) → Some now ≡ option_map (λ q. slices_at_end i u q run) o
    go None p a b c d = absurd (false≢true (and_parts (is_open (state_of config run) i) false (sym d)).1)
    go (Some q) None a b c d = absurd (cc)
    go (Some q) (Some p) a b c d = c ∙ ap (λ (s : Slices). Some s) (slices_follow_runs config run i u q p is a b)

-- else they are the configured ones
pub configured_then : (config : Config) (run : List Entry) (i u : ℕ) → IsRun config run → false ≡ (is_open (state_of config run) i && is_some (slices_of config.nodes u)) → slices_of config.nodes u ≡ slices_then config.nodes i run u
configured_then config run i u is none = go (slices_of config.nodes u) none
  where
    closed : (b : Bool) → false ≡ (b && true) → b ≡ false
    closed true k = sym k
    closed false k = refl

    go : (o : Option Slices) → false ≡ (is_open (state_of config run) i && is_some o) → o ≡ option_map (λ q. slices_at_end i u q run) o
    go None k = refl
    go (Some q) k = ap (λ (s : Slices). Some s) (sym (closed-then config run i u q is (closed (is_open (state_of config run) i) k)))
