-- Agreement of two networks, from what a set sees of each. The law `networks_agree` stands on it.
use Rattle.scp_types.specs.declared.event.NodeEvent.TheVariants.{Take, Reslice}
use Rattle.scp_types.specs.declared.event.Out.{Out}
use Rattle.scp_types.specs.declared.event.Refusal.{Refusal}
use Rattle.std.proofs.Common.{◌≡◌, ℕ, Bool, true, false, ◌==◌, Option, Some, None, List, [], ◌∷◌, option_map, take, if◌then◌else◌, refl, sym, ◌∙◌, ap, ap₂, subst}
use Rattle.std.specs.Prelude.{IfSome}
use Rattle.std.proofs.Math.Path.{fun_ext}
use Rattle.std.proofs.lemmas.Bool.{eqb-true}
use Rattle.scp_types.specs.Statements.{Sent}
use Rattle.scp_spec.specs.Sets.{Names}
use Rattle.scp_spec.specs.Nodes.{Node}
use Rattle.scp_spec.specs.Networks.{Instance, Net, Step, slices_of, instances_at, node_named, node_where_open, effect, source, size_of, with_draw, tests, first_that, state_and_reply, net_step}
use Rattle.scp_spec.specs.Networks.Reply.{Done}
use Rattle.scp_spec.specs.Runs.{state_of}
use Rattle.scp_spec.specs.Isolation.{KeptStep, kept_step, is_of, closure}
use Rattle.scp_spec.specs.Isolation.KeptStep.{EventAt}
use Rattle.scp_spec.specs.Agreeing.{instance_in, IsClosedIn, AreInstancesAlike, AgreeIn, IsKeptOfMembers, given_by, NewNetworksAgree, RunsStayClosedIn, StepsAgree, OtherStepsLeave, StaysClosedIn}
use Rattle.scp_spec.proofs.Networks.Effects.{effect-keeps}
use Rattle.scp_spec.proofs.Runs.Claims.{good}
use Rattle.scp_spec.proofs.Runs.Prefixes.{closed_for, holds-after}
use Rattle.scp_spec.proofs.Runs.Sights.{cut_instance, Sight, sight, play, reply, AllInstances}
use Rattle.scp_spec.proofs.Runs.Follows.{Follows}
use Rattle.scp_spec.proofs.Runs.Events.{IsNew, follows}
use Rattle.scp_spec.proofs.Runs.Openings.{HaveSlicesWithin, cast_of}
use Rattle.scp_spec.proofs.Runs.KeptSteps.{is_new}
use Rattle.scp_spec.proofs.Runs.KeptWithin.{if_kept, IsKeptIn, kept_step-to}

-- ---- what a set sees, and agreement
instance-name : (ps : List Instance) (u : ℕ) (p : Instance) → node_named ps u ≡ Some p → p.node.name ≡ u
instance-name [] u p h = cc
instance-name (x ∷ xs) u p h = go (x.node.name == u) refl h (instance-name xs u p)
  where
    go : (b : Bool) → (x.node.name == u) ≡ b → (if b then Some x else node_named xs u) ≡ Some p
        → (node_named xs u ≡ Some p → p.node.name ≡ u) → p.node.name ≡ u
    go true e k ih = let same : x ≡ p = cc in ap (λ (y : Instance). y.node.name) (sym same) ∙ eqb-true x.node.name u e
    go false e k ih = ih k

node_where_open-name : (o : Option (List Instance)) (u : ℕ) (p : Instance) → node_where_open o u ≡ Some p → p.node.name ≡ u
node_where_open-name None u p h = cc
node_where_open-name (Some ps) u p h = instance-name ps u p h

module _ (R : Names) (i : ℕ) where
  all_instances : (net : Net) → IsClosedIn R i net → AllInstances R i net
  all_instances net c u p k = record {
    name = node_where_open-name (instances_at net.slots i) u p k;
    good = λ r. good R p.node (c.instances u p k r);
    calm = λ r. c.calm u p k r;
    emitted = c.emitted u p k;
  }

  closed_in : (net : Net) → HaveSlicesWithin R net.nodes → AllInstances R i net → IsClosedIn R i net
  closed_in net nodes h = record {
    nodes = nodes;
    instances = λ u p k r. closed_for R p.node ((h u p k).good r);
    calm = λ u p k r. (h u p k).calm r;
    emitted = λ u p k. (h u p k).emitted;
  }

  alike-cut : (a b : Option Instance) → AreInstancesAlike R a b → option_map (cut_instance R) a ≡ option_map (cut_instance R) b
  alike-cut None None h = refl
  alike-cut None (Some q) h = absurd h
  alike-cut (Some p) None h = absurd h
  alike-cut (Some p) (Some q) h =
      ap₂ {C = Option Instance} (λ (n : Node) (es : List Sent). Some (record { node = n; emitted = es })) h.0 h.1

  cut-alike : (a b : Option Instance) → option_map (cut_instance R) a ≡ option_map (cut_instance R) b → AreInstancesAlike R a b
  cut-alike None None h = tt
  cut-alike None (Some q) h = cc
  cut-alike (Some p) None h = cc
  cut-alike (Some p) (Some q) h =
      let same : cut_instance R p ≡ cut_instance R q = cc in
      (ap (λ (x : Instance). x.node) same, ap (λ (x : Instance). x.emitted) same)

  agree-sights : (one other : Net) → AgreeIn R i one other → sight R i one ≡ sight R i other
  agree-sights one other a = fun_ext (λ u. go u (R u) refl)
    where
      go : (u : ℕ) (b : Bool) → R u ≡ b
          → (if b then option_map (cut_instance R) (instance_in one i u) else None)
          ≡ (if b then option_map (cut_instance R) (instance_in other i u) else None)
      go u true r = alike-cut (instance_in one i u) (instance_in other i u) (a.instances u r)
      go u false r = refl

  sights-alike : (one other : Net) → sight R i one ≡ sight R i other → (u : ℕ) → R u ≡ true
      → AreInstancesAlike R (instance_in one i u) (instance_in other i u)
  sights-alike one other s u r =
      cut-alike (instance_in one i u) (instance_in other i u) (seen one ∙ (ap (λ (x : Sight). x u) s ∙ sym (seen other)))
    where
      seen : (net : Net) → option_map (cut_instance R) (instance_in net i u) ≡ sight R i net u
      seen net = sym (ap (λ b. if b then option_map (cut_instance R) (instance_in net i u) else None) r)

  agree-casts : (one other : Net) → AgreeIn R i one other → cast_of R one.nodes ≡ cast_of R other.nodes
  agree-casts one other a = fun_ext (λ u. go u (R u) refl)
    where
      go : (u : ℕ) (b : Bool) → R u ≡ b
          → (if b then slices_of one.nodes u else None) ≡ (if b then slices_of other.nodes u else None)
      go u true r = a.cast u r
      go u false r = refl

  -- what is kept lies in the set
  kept_in : (k : KeptStep) → IsKeptOfMembers R k → IsKeptIn R k
  kept_in (EventAt u (Take e)) h = λ r s. h.1
  kept_in (EventAt u (Reslice q)) h = λ r. h
  kept_in _ h = tt

  some_kept-in : (o : Option KeptStep) → IfSome o (IsKeptOfMembers R) → if_kept R o
  some_kept-in None h = tt
  some_kept-in (Some k) h = kept_in k h

  -- ---- an applied step
  record Applied (net : Net) (e : Step) (os : List Out) : Type 0 where
    after : Net
    is : (net_step net e).0 ≡ after
    nodes : after.nodes ≡ net.nodes
    slots : after.slots ≡ (effect net e).0.slots
    outs : os ≡ (effect net e).1
    fresh : IsNew net e

  applied : (net : Net) (e : Step) (os : List Out) → (net_step net e).1 ≡ Done os → Applied net e os
  unfolding net_step
  applied net e os h = go (first_that (tests net e)) refl h
    where
      go : (o : Option Refusal) → first_that (tests net e) ≡ o → (state_and_reply net e o).1 ≡ Done os
          → Applied net e os
      go (Some n) q d = cc
      go None q d = record {
        after = with_draw (source net.roster e) (size_of e) (effect net e).0;
        is = ap (λ o. (state_and_reply net e o).0) q;
        nodes = (effect-keeps net e).nodes;
        slots = refl;
        outs = cc;
        fresh = is_new net e q;
      }

  -- what the set sees after it, what its members give out, and what holds of the instances
  record Seen (net : Net) (e : Step) (os : List Out) : Type 0 where
    sights : sight R i (net_step net e).0 ≡ play (cast_of R net.nodes) i (sight R i net) (kept_step R i e)
    replies : (u : ℕ) → R u ≡ true → given_by i u e os ≡ reply (sight R i net) (kept_step R i e) u
    nodes : (net_step net e).0.nodes ≡ net.nodes
    closed : IsClosedIn R i (net_step net e).0

  seen_step : (net : Net) (e : Step) (os : List Out) → IsClosedIn R i net → (net_step net e).1 ≡ Done os
      → if_kept R (kept_step R i e) → Seen net e os
  seen_step net e os c d k =
      let a = applied net e os d in
      let nodes : HaveSlicesWithin R net.nodes = c.nodes in
      let f : Follows R (cast_of R net.nodes) i net (effect net e) (λ w. is_of i w e) (kept_step R i e) =
      follows R i net e (all_instances net c) nodes a.fresh (kept_step-to R R i e (λ u r. r) k) in
      let slots = ap (λ (n : Net). n.slots) a.is ∙ a.slots in
      let same_nodes = ap (λ (n : Net). n.nodes) a.is ∙ a.nodes in
      record {
        sights = fun_ext (λ u. ap (λ ss. if R u then option_map (cut_instance R)
            (node_where_open (instances_at ss i) u) else None) slots) ∙ f.sights;
        replies = λ u r. ap (λ xs. given_by i u e xs) a.outs ∙ f.replies u r;
        nodes = same_nodes;
        closed = closed_in (net_step net e).0 (subst (λ hs. HaveSlicesWithin R hs) (sym same_nodes) nodes)
            (λ u p h. f.instances u p (ap (λ ss. node_where_open (instances_at ss i) u) (sym slots) ∙ h));
      }

-- ---- the laws
pub steps_agree : StepsAgree
steps_agree R i one other e d os ps c c_there a done done_there same k =
    let kept_one = some_kept-in R i (kept_step R i e) k in
    let s = seen_step R i one e os c done kept_one in
    let t = seen_step R i other d ps c_there done_there (subst (if_kept R) same kept_one) in
    let now = agree-sights R i one other a in
    let casts = agree-casts R i one other a in
    let both : sight R i (net_step one e).0 ≡ sight R i (net_step other d).0 =
    s.sights ∙ ((λ j. play (casts j) i (now j) (same j)) ∙ sym t.sights) in (
      record {
        cast = λ u r. ap (λ hs. slices_of hs u) s.nodes ∙ (a.cast u r ∙ ap (λ hs. slices_of hs u) (sym t.nodes));
        instances = sights-alike R i (net_step one e).0 (net_step other d).0 both;
      },
      λ u r. s.replies u r ∙ ((λ j. reply (now j) (same j) u) ∙ sym (t.replies u r)),
    )

pub other_steps_leave : OtherStepsLeave
other_steps_leave R i one other e os c a done none =
    let s = seen_step R i one e os c done (subst (if_kept R) (sym none) tt) in
    let still : sight R i (net_step one e).0 ≡ sight R i other =
    s.sights ∙ (ap (λ o. play (cast_of R one.nodes) i (sight R i one) o) none ∙ agree-sights R i one other a) in (
      record {
        cast = λ u r. ap (λ hs. slices_of hs u) s.nodes ∙ a.cast u r;
        instances = sights-alike R i (net_step one e).0 other still;
      },
      λ u r. s.replies u r ∙ ap (λ o. reply (sight R i one) o u) none,
    )

pub stays_closed_in : StaysClosedIn
stays_closed_in R i net e os c done k = (seen_step R i net e os c done (some_kept-in R i (kept_step R i e) k)).closed

pub new_networks_agree : NewNetworksAgree
new_networks_agree R i one other same = record { cast = same; instances = λ u r. tt }

pub runs_stay_closed_in : RunsStayClosedIn
runs_stay_closed_in config run i v n is =
    let h = holds-after config run i v n is in
    closed_in (closure config.nodes i v run) i (state_of config (take n run)) h.1 h.0
