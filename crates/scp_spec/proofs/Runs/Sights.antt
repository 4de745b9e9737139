-- What R sees of a network at a slot, and how each event moves it. `Crowds`, `Networks` and the crate `line_run` stand
-- on it.
use Rattle.scp_types.specs.declared.event.NodeEvent.{NodeEvent}
use Rattle.scp_types.specs.declared.event.Out.{Out}
use Rattle.std.proofs.Common.{◌≡◌, ℕ, Bool, true, false, not, ◌&&◌, ◌||◌, ◌==◌, Option, Some, None, List, [], ◌∷◌, option_map, if◌then◌else◌, refl, sym, ◌∙◌, ap, inl, inr}
use Rattle.std.specs.List.{list_all}
use Rattle.std.proofs.lemmas.Bool.{cases_Bool, and_from, or_left, or_right, true≢false, not_from_false, eqb-true, eq-eqb}
use Rattle.scp_types.specs.Trees.{Slices}
use Rattle.scp_types.specs.Statements.{Sent}
use Rattle.scp_spec.specs.Sets.{Names, within}
use Rattle.scp_spec.specs.Satisfaction.{names}
use Rattle.scp_spec.specs.Nodes.{step, Calm, fresh}
use Rattle.scp_types.specs.declared.event.NodeEvent.TheVariants.{Take}
use Rattle.scp_spec.specs.Networks.{Instance, Slot, Net, instances_at, node_named, emissions, emission, node_where_open, after_event, outs_at, act_in, act}
use Rattle.scp_spec.specs.Isolation.{KeptStep}
use Rattle.scp_spec.specs.Isolation.KeptStep.{Opening, Closing, EventAt, Hearing}
use Rattle.scp_spec.proofs.Sets.Lists.{all-append}
use Rattle.scp_spec.proofs.Networks.Effects.{at_slot}
use Rattle.scp_spec.proofs.Nodes.Views.{announces_in}
use Rattle.scp_spec.proofs.Nodes.Agreement.{cut_node}
use Rattle.scp_spec.proofs.Nodes.Closed.{Good, IsFit, good-step}
use Rattle.scp_spec.proofs.Nodes.Calm.{calm-step}
use Rattle.scp_spec.proofs.Nodes.Emitted.{step-self, step-emit}

abbrev pub cut_instance : Names → Instance → Instance
cut_instance R p = record { node = cut_node R p.node; emitted = p.emitted }

-- each member's instance, with the rows of R alone
abbrev pub Sight : Type 0
Sight = ℕ → Option Instance

abbrev pub sight : Names → ℕ → Net → Sight
sight R i net = λ u. if R u then option_map (cut_instance R) (node_where_open (instances_at net.slots i) u) else None

-- The machine of the kept steps alone

abbrev pub told_to : Sight → ℕ → NodeEvent → Sight
told_to s u e = λ w. if w == u then option_map (after_event e) (s w) else s w

abbrev pub heard_to : Sight → ℕ → Option Sent → Sight
heard_to s u None = s
heard_to s u (Some e) = told_to s u (Take e)

abbrev pub outs_heard : Sight → ℕ → Option Sent → List Out
outs_heard s u None = []
outs_heard s u (Some e) = outs_at (Take e) (s u)

abbrev pub play : (ℕ → Option Slices) → ℕ → Sight → Option KeptStep → Sight
play cast i s None = s
play cast i s (Some Opening) = λ u. option_map (λ q. record { node = fresh i u q; emitted = [] }) (cast u)
play cast i s (Some Closing) = λ u. None
play cast i s (Some (EventAt u e)) = told_to s u e
play cast i s (Some (Hearing u from kind k)) = heard_to s u (emission (s from) kind k)

abbrev pub reply : Sight → Option KeptStep → ℕ → List Out
reply s None w = []
reply s (Some Opening) w = []
reply s (Some Closing) w = []
reply s (Some (EventAt u e)) w = if u == w then outs_at e (s u) else []
reply s (Some (Hearing u from kind k)) w = if u == w then outs_heard s u (emission (s from) kind k) else []

-- What holds of each instance

pub record IsInstance (R : Names) (u : ℕ) (p : Instance) : Type 0 where
  pub name : p.node.name ≡ u
  pub good : R u ≡ true → Good R p.node
  pub calm : R u ≡ true → Calm p.node
  pub emitted : list_all (λ e. (e.sender == u) && announces_in R e) p.emitted ≡ true

abbrev pub AllInstances : Names → ℕ → Net → Type 0
AllInstances R i net = (u : ℕ) (p : Instance) → node_where_open (instances_at net.slots i) u ≡ Some p → IsInstance R u p

pub after_event-name : (e : NodeEvent) (p : Instance) → (after_event e p).node.name ≡ p.node.name
unfolding after_event
after_event-name e p = step-self p.node e

-- a step keeps it
pub instance-moved : (R : Names) (u : ℕ) (p : Instance) (e : NodeEvent) → (R u ≡ true → IsFit R e) → IsInstance R u p
    → IsInstance R u (after_event e p)
unfolding after_event
instance-moved R u p e fit h = record {
  name = step-self p.node e ∙ h.name;
  good = λ i. good-step R p.node e (h.good i) (fit i);
  calm = λ i. calm-step p.node e (h.calm i);
  emitted = all-append (λ x. (x.sender == u) && announces_in R x) p.emitted (emissions (step p.node e).1) h.emitted
      (step-emit (λ x. (x.sender == u) && announces_in R x) p.node e (λ slot s.
      and_from (p.node.name == u) (not (R p.node.name) || within (names (step p.node e).0.slices) R)
      (eq-eqb p.node.name u h.name)
      (elim (cases_Bool (R u)) [
        | inl i ↦ or_right (not (R p.node.name)) (within (names (step p.node e).0.slices) R)
            (good-step R p.node e (h.good i) (fit i)).closed.own
        | inr o ↦ or_left (not (R p.node.name)) (within (names (step p.node e).0.slices) R)
            (not_from_false (R p.node.name) (ap R h.name ∙ o))
      ])));
}

-- Looking up after a step

node_named-same : (u : ℕ) (e : NodeEvent) (ps : List Instance)
    → node_named (act_in u e ps) u ≡ option_map (after_event e) (node_named ps u)
node_named-same u e [] = refl
node_named-same u e (p ∷ ps) = go (p.node.name == u) refl (node_named-same u e ps)
  where
    go : (b : Bool) → (p.node.name == u) ≡ b
        → node_named (act_in u e ps) u ≡ option_map (after_event e) (node_named ps u)
        → node_named ((if b then after_event e p else p) ∷ act_in u e ps) u
        ≡ option_map (after_event e) (if b then Some p else node_named ps u)
    go true h ih = rw (ap (λ x. x == u) (after_event-name e p) ∙ h)
    go false h ih = rw h ih

node_named-other : (u w : ℕ) (e : NodeEvent) (ps : List Instance) → (w == u) ≡ false
    → node_named (act_in u e ps) w ≡ node_named ps w
node_named-other u w e [] o = refl
node_named-other u w e (p ∷ ps) o = go (p.node.name == u) refl (node_named-other u w e ps o)
  where
    go : (b : Bool) → (p.node.name == u) ≡ b → node_named (act_in u e ps) w ≡ node_named ps w
        → node_named ((if b then after_event e p else p) ∷ act_in u e ps) w
        ≡ (if p.node.name == w then Some p else node_named ps w)
    go true h ih =
        let no : (p.node.name == w) ≡ false = elim (cases_Bool (p.node.name == w)) [
          | inl y ↦ absurd
              (true≢false (sym (eq-eqb w u (sym (eqb-true p.node.name w y) ∙ eqb-true p.node.name u h)) ∙ o))
          | inr n ↦ n
        ] in
        rw (ap (λ x. x == w) (after_event-name e p) ∙ no, no) ih
    go false h ih = ap (λ o. if p.node.name == w then Some p else o) ih

instances_at-same : (f : List Instance → List Instance) (ss : List Slot) (i : ℕ)
    → instances_at (at_slot f i ss) i ≡ option_map f (instances_at ss i)
instances_at-same f [] i = refl
instances_at-same f (s ∷ ss) i = go (s.number == i) refl (instances_at-same f ss i)
  where
    go : (b : Bool) → (s.number == i) ≡ b → instances_at (at_slot f i ss) i ≡ option_map f (instances_at ss i)
        → instances_at ((if b then record s { instances = f s.instances } else s) ∷ at_slot f i ss) i
        ≡ option_map f (if b then Some s.instances else instances_at ss i)
    go true h ih = rw h
    go false h ih = rw h ih

instances_at-other : (f : List Instance → List Instance) (ss : List Slot) (j i : ℕ) → (j == i) ≡ false
    → instances_at (at_slot f j ss) i ≡ instances_at ss i
instances_at-other f [] j i o = refl
instances_at-other f (s ∷ ss) j i o = go (s.number == j) refl (instances_at-other f ss j i o)
  where
    go : (b : Bool) → (s.number == j) ≡ b → instances_at (at_slot f j ss) i ≡ instances_at ss i
        → instances_at ((if b then record s { instances = f s.instances } else s) ∷ at_slot f j ss) i
        ≡ (if s.number == i then Some s.instances else instances_at ss i)
    go true h ih =
        let no : (s.number == i) ≡ false = ap (λ x. x == i) (eqb-true s.number j h) ∙ o in rw no ih
    go false h ih = ap (λ o. if s.number == i then Some s.instances else o) ih

pub node_where_open-same : (net : Net) (i u : ℕ) (e : NodeEvent)
    → node_where_open (instances_at (act net i u e).0.slots i) u
    ≡ option_map (after_event e) (node_where_open (instances_at net.slots i) u)
unfolding act
node_where_open-same net i u e =
    ap (λ o. node_where_open o u) (instances_at-same (act_in u e) net.slots i) ∙ go (instances_at net.slots i)
  where
    go : (o : Option (List Instance))
        → node_where_open (option_map (act_in u e) o) u ≡ option_map (after_event e) (node_where_open o u)
    go None = refl
    go (Some ps) = node_named-same u e ps

pub node_where_open-other : (net : Net) (i u w : ℕ) (e : NodeEvent) → (w == u) ≡ false
    → node_where_open (instances_at (act net i u e).0.slots i) w ≡ node_where_open (instances_at net.slots i) w
unfolding act
node_where_open-other net i u w e o =
    ap (λ x. node_where_open x w) (instances_at-same (act_in u e) net.slots i) ∙ go (instances_at net.slots i)
  where
    go : (x : Option (List Instance)) → node_where_open (option_map (act_in u e) x) w ≡ node_where_open x w
    go None = refl
    go (Some ps) = node_named-other u w e ps o

pub node_where_open-elsewhere : (net : Net) (j i u w : ℕ) (e : NodeEvent) → (j == i) ≡ false
    → node_where_open (instances_at (act net j u e).0.slots i) w ≡ node_where_open (instances_at net.slots i) w
unfolding act
node_where_open-elsewhere net j i u w e o = ap (λ x. node_where_open x w) (instances_at-other (act_in u e) net.slots j i o)
