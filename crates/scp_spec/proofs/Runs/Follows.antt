-- Each applied event moves what R sees as the machine of the kept steps says. `Crowds` stands on it.
use Rattle.scp_types.specs.declared.event.NodeEvent.{NodeEvent}
use Rattle.scp_types.specs.declared.event.Out.{Out}
use Rattle.std.proofs.Common.{◌≡◌, ℕ, Bool, true, false, not, ◌&&◌, ◌==◌, Option, Some, None, List, [], ◌++◌, option_map, if◌then◌else◌, refl, sym, ◌∙◌, ap, ap₂, subst, inl, inr, append-nil}
use Rattle.std.proofs.Math.Path.{fun_ext}
use Rattle.std.proofs.lemmas.Bool.{cases_Bool, and_parts, and_from, or_left, true≢false, not_from_false, eqb-true}
use Rattle.scp_types.specs.Trees.{Slices}
use Rattle.scp_types.specs.Statements.{Sent}
use Rattle.scp_spec.specs.Sets.{Names, within}
use Rattle.scp_spec.specs.Satisfaction.{names}
use Rattle.scp_spec.specs.Nodes.{Node}
use Rattle.scp_types.specs.declared.event.NodeEvent.TheVariants.{Take}
use Rattle.scp_spec.specs.Networks.{Instance, Net, instances_at, emissions, node_where_open, after_event, outs_at, act}
use Rattle.scp_spec.specs.Isolation.{KeptStep}
use Rattle.scp_spec.specs.Isolation.KeptStep.{EventAt}
use Rattle.scp_spec.proofs.Equality.Sameness.{eqb-refl}
use Rattle.scp_spec.proofs.Nodes.Agreement.{cut_node, IsKept, step-kept}
use Rattle.scp_spec.proofs.Nodes.Closed.{IsFit}
use Rattle.scp_spec.proofs.Nodes.Quiet.{step-quiet}
use Rattle.scp_spec.proofs.Runs.Sights.{cut_instance, sight, play, reply, IsInstance, AllInstances, instance-moved, node_where_open-same, node_where_open-other, node_where_open-elsewhere}

-- what an event does, as R sees it
pub record Follows (R : Names) (cast : ℕ → Option Slices) (i : ℕ) (net : Net) (done : Net × List Out) (of : ℕ → Bool)
    (k : Option KeptStep) : Type 0 where
  pub sights : sight R i done.0 ≡ play cast i (sight R i net) k
  pub replies : (w : ℕ) → R w ≡ true → (if of w then done.1 else []) ≡ reply (sight R i net) k w
  pub instances : AllInstances R i done.0

-- the instances after a step of one of them
instances-act : (R : Names) (i : ℕ) (net : Net) (j u : ℕ) (e : NodeEvent) → ((j == i) ≡ true → R u ≡ true → IsFit R e)
    → AllInstances R i net → AllInstances R i (act net j u e).0
instances-act R i net j u e fit h w p k = elim (cases_Bool (j == i)) [
  | inr o ↦ h w p (sym (node_where_open-elsewhere net j i u w e o) ∙ k)
  | inl y ↦ let ji : j ≡ i = eqb-true j i y in elim (cases_Bool (w == u)) [
    | inr o ↦ h w p
        (sym (node_where_open-other net i u w e o)
        ∙ subst (λ x. node_where_open (instances_at (act net x u e).0.slots i) w ≡ Some p) ji k)
    | inl z ↦ let wu : w ≡ u = eqb-true w u z in
        go (node_where_open (instances_at net.slots i) w) refl
        (subst (λ x. option_map (after_event e) (node_where_open (instances_at net.slots i) x) ≡ Some p) (sym wu)
        (sym (node_where_open-same net i u e)
        ∙ subst (λ x. node_where_open (instances_at (act net i u e).0.slots i) x ≡ Some p) wu
        (subst (λ x. node_where_open (instances_at (act net x u e).0.slots i) w ≡ Some p) ji k)))
        (λ r. fit y (subst (λ x. R x ≡ true) wu r))
  ]
]
  where
    go : (o : Option Instance) → node_where_open (instances_at net.slots i) w ≡ o → option_map (after_event e) o ≡ Some p
        → (R w ≡ true → IsFit R e) → IsInstance R w p
    go None q s f = cc
    go (Some x) q s f =
        let m : after_event e x ≡ p = cc in subst (λ y. IsInstance R w y) m (instance-moved R w x e f (h w x q))

-- a step that R doesn't see
pub unseen : (R : Names) (cast : ℕ → Option Slices) (i : ℕ) (net : Net) (j u : ℕ) (e : NodeEvent) → AllInstances R i net
    → ((j == i) && R u) ≡ false
    → Follows R cast i net (act net j u e) (λ w. (j == i) && (u == w)) None
unseen R cast i net j u e h o = record {
  sights = fun_ext (λ w. go w (R w) refl);
  replies = λ w r. ap (λ b. if b then (act net j u e).1 else []) (no w r);
  instances = instances-act R i net j u e (λ y r. absurd (true≢false (sym (and_from (j == i) (R u) y r) ∙ o))) h;
}
  where
    no : (w : ℕ) → R w ≡ true → ((j == i) && (u == w)) ≡ false
    no w r = elim (cases_Bool ((j == i) && (u == w))) [
      | inl y ↦ let p = and_parts (j == i) (u == w) y in
          absurd (true≢false (sym (and_from (j == i) (R u) p.0 (ap R (eqb-true u w p.1) ∙ r)) ∙ o))
      | inr n ↦ n
    ]

    same : (w : ℕ) → R w ≡ true
        → node_where_open (instances_at (act net j u e).0.slots i) w ≡ node_where_open (instances_at net.slots i) w
    same w r = elim (cases_Bool (j == i)) [
      | inr n ↦ node_where_open-elsewhere net j i u w e n
      | inl y ↦ subst
          (λ x. node_where_open (instances_at (act net x u e).0.slots i) w ≡ node_where_open (instances_at net.slots i) w)
          (sym (eqb-true j i y))
          (node_where_open-other net i u w e (elim (cases_Bool (w == u)) [
            | inl z ↦ absurd (true≢false (sym (and_from (j == i) (R u) y (sym (ap R (eqb-true w u z)) ∙ r)) ∙ o))
            | inr n ↦ n
          ]))
    ]

    go : (w : ℕ) (b : Bool) → R w ≡ b
        → (if b then option_map (cut_instance R) (node_where_open (instances_at (act net j u e).0.slots i) w) else None)
        ≡ (if b then option_map (cut_instance R) (node_where_open (instances_at net.slots i) w) else None)
    go w true r = ap (option_map (cut_instance R)) (same w r)
    go w false r = refl

-- a kept step of an instance, and one that is not
after_event-cut : (R : Names) (u : ℕ) (p : Instance) (e : NodeEvent) → IsInstance R u p → R u ≡ true → IsFit R e → IsKept R e
    → cut_instance R (after_event e p) ≡ after_event e (cut_instance R p)
unfolding after_event
after_event-cut R u p e h r f k =
    ap {B = Instance} (λ (x : Node × List Out). record { node = x.0; emitted = p.emitted ++ emissions x.1 })
    (sym (step-kept R p.node e (h.good r) f k))

after_event-quiet : (R : Names) (u : ℕ) (p : Instance) (e : Sent) → IsInstance R u p → R u ≡ true → R e.sender ≡ false
    → cut_instance R (after_event (Take e) p) ≡ cut_instance R p
unfolding after_event
after_event-quiet R u p e h r o =
    let q = step-quiet R p.node e (h.good r) (h.calm r) o in
    ap₂ {C = Instance} (λ (n : Node) (os : List Out). record { node = n; emitted = p.emitted ++ emissions os }) q.0 q.1
    ∙ ap {B = Instance} (λ (es : List Sent). record { node = cut_node R p.node; emitted = es }) (append-nil p.emitted)

pub act-outs : (net : Net) (i u : ℕ) (e : NodeEvent)
    → (act net i u e).1 ≡ outs_at e (node_where_open (instances_at net.slots i) u)
unfolding act
act-outs net i u e = refl

module _ (R : Names) (cast : ℕ → Option Slices) (i : ℕ) (net : Net) (u : ℕ) (e : NodeEvent) (h : AllInstances R i net)
    (r : R u ≡ true) (fit : IsFit R e) where
  -- a step of a member changes what R sees of that member alone
  pub seen_by : (f : Option Instance → Option Instance)
      → option_map (cut_instance R) (option_map (after_event e) (node_where_open (instances_at net.slots i) u))
      ≡ f (option_map (cut_instance R) (node_where_open (instances_at net.slots i) u))
      → sight R i (act net i u e).0 ≡ (λ w. if w == u then f (sight R i net w) else sight R i net w)
  seen_by f s = fun_ext (λ w. at w (w == u) refl)
    where
      at : (w : ℕ) (b : Bool) → (w == u) ≡ b
          → sight R i (act net i u e).0 w ≡ (if b then f (sight R i net w) else sight R i net w)
      at w true z = subst (λ x. sight R i (act net i u e).0 x ≡ f (sight R i net x)) (sym (eqb-true w u z))
          (rw (r) (ap (option_map (cut_instance R)) (node_where_open-same net i u e) ∙ s))
      at w false z = ap (λ o. if R w then option_map (cut_instance R) o else None) (node_where_open-other net i u w e z)

  -- one that is kept
  pub member_kept : IsKept R e → Follows R cast i net (act net i u e) (λ w. (i == i) && (u == w)) (Some (EventAt u e))
  member_kept k = record {
    sights = seen_by (option_map (after_event e)) (go (node_where_open (instances_at net.slots i) u) refl);
    replies =
        λ w s. ap₂ (λ (b : Bool) (os : List Out). if b then os else []) (ap (λ b. b && (u == w)) (eqb-refl i))
        (act-outs net i u e ∙ (outs (node_where_open (instances_at net.slots i) u) refl ∙ rw r refl));
    instances = instances-act R i net i u e (λ y q. fit) h;
  }
    where
      go : (o : Option Instance) → node_where_open (instances_at net.slots i) u ≡ o
          → option_map (cut_instance R) (option_map (after_event e) o)
          ≡ option_map (after_event e) (option_map (cut_instance R) o)
      go None q = refl
      go (Some p) q = ap {B = Option Instance} Some (after_event-cut R u p e (h u p q) r fit k)

      outs : (o : Option Instance) → node_where_open (instances_at net.slots i) u ≡ o
          → outs_at e o ≡ outs_at e (option_map (cut_instance R) o)
      outs None q = refl
      outs (Some p) q = ap (λ (x : Node × List Out). x.1) (sym (step-kept R p.node e ((h u p q).good r) fit k))

-- an envelope from outside R
pub member_quiet : (R : Names) (cast : ℕ → Option Slices) (i : ℕ) (net : Net) (u : ℕ) (e : Sent) → AllInstances R i net
    → R u ≡ true → R e.sender ≡ false
    → Follows R cast i net (act net i u (Take e)) (λ w. (i == i) && (u == w)) None
member_quiet R cast i net u e h r o = record {
  sights = seen_by R cast i net u (Take e) h r fit (λ x. x) (go (node_where_open (instances_at net.slots i) u) refl)
      ∙ fun_ext (λ w. same (w == u) (sight R i net w));
  replies =
      λ w s. none_of ((i == i) && (u == w))
      (act-outs net i u (Take e) ∙ outs (node_where_open (instances_at net.slots i) u) refl);
  instances = instances-act R i net i u (Take e) (λ y q. fit) h;
}
  where
    fit : IsFit R (Take e)
    fit = or_left (not (R e.sender)) (within (names e.slices) R) (not_from_false (R e.sender) o)

    go : (x : Option Instance) → node_where_open (instances_at net.slots i) u ≡ x
        → option_map (cut_instance R) (option_map (after_event (Take e)) x) ≡ option_map (cut_instance R) x
    go None q = refl
    go (Some p) q = ap {B = Option Instance} Some (after_event-quiet R u p e (h u p q) r o)

    outs : (x : Option Instance) → node_where_open (instances_at net.slots i) u ≡ x → outs_at (Take e) x ≡ []
    outs None q = refl
    outs (Some p) q = (step-quiet R p.node e ((h u p q).good r) ((h u p q).calm r) o).1

    same : (b : Bool) (x : Option Instance) → (if b then x else x) ≡ x
    same true x = refl
    same false x = refl

    none_of : {os : List Out} (b : Bool) → os ≡ [] → (if b then os else []) ≡ []
    none_of true e = e
    none_of false e = refl
