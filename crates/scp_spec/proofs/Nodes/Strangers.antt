-- Strangers to a node: leaders are near all slices that it has had, and an envelope from elsewhere adds its row alone.
-- The law `strangers_add_rows` and the crate `node_core` stand on it.
use Rattle.scp_types.specs.declared.event.NodeEvent.{NodeEvent}
use Rattle.scp_types.specs.declared.event.NodeEvent.TheVariants.{Propose, Take, NominationTimer, BallotTimer, Reslice}
use Rattle.std.proofs.Common.{◌≡◌, ℕ, ◌+◌, true, not, List, refl, sym, ◌∙◌, ap, subst, inl, inr}
use Rattle.std.proofs.Math.Path.{fun_ext}
use Rattle.std.proofs.lemmas.Bool.{cases_Bool, or_left, or_right, not_from_false}
use Rattle.scp_types.specs.declared.event.Out.{Out}
use Rattle.scp_types.specs.Trees.{Slices}
use Rattle.scp_types.specs.Statements.{Sent}
use Rattle.scp_spec.specs.Sets.{Names, among, within}
use Rattle.scp_spec.specs.Satisfaction.{names}
use Rattle.scp_spec.specs.Rows.{row, is_taken, with_row}
use Rattle.scp_spec.specs.Reach.{HoldsReach, IsReach}
use Rattle.scp_spec.specs.Leaders.{leader}
use Rattle.scp_spec.specs.Nodes.{Node, fresh, change, step, in_round, with_timeout}
use Rattle.scp_spec.specs.Claims.{IsQuiet}
use Rattle.scp_spec.specs.Strangers.{GivesWithin, HasNamed, LeadersAreNear, HeldIsClosed, OutsidersAddRows, OutsidersAreQuiet, StrangersAddRows}
use Rattle.scp_spec.specs.Strangers.HasNamed.{begin, next}
use Rattle.scp_spec.proofs.Sets.Finite.{all_from}
use Rattle.scp_spec.proofs.Sets.Contained.{all_from_contained}
use Rattle.scp_spec.proofs.Reach.Chains.{reached-holds}
use Rattle.scp_spec.proofs.Nodes.Views.{Closing, announces_in, row-cut}
use Rattle.scp_spec.proofs.Nodes.Quiet.{cut-push_other, step-outside, step-stale}
use Rattle.scp_spec.proofs.Nodes.Made.{if_node, if_node-if, step-keeps}
use Rattle.scp_spec.proofs.Nodes.Closed.{all-push, leader-in}
use Rattle.scp_spec.proofs.Nodes.Lawful.{calm-of-events}

-- ---- leaders
-- the set has the node's name, the names of its slices, and its leaders
record IsNear (R : Names) (n : Node) : Type 0 where
  has : R n.name ≡ true
  own : within (names n.slices) R ≡ true
  leaders : within n.inputs.leaders R ≡ true

module _ (R : Names) where
  in_next : (n : Node) (round : ℕ) → IsNear R n → within (in_round n round).inputs.leaders R ≡ true
  in_next n round h =
      all-push R n.inputs.leaders (leader n.slot round n.name n.slices) h.leaders
      (leader-in R n.slot round n.name n.slices h.has h.own)

  near-change : (n : Node) (e : NodeEvent) → GivesWithin R e → IsNear R n → if_node (IsNear R) (change n e)
  unfolding change
  near-change n (Propose x) g h = record { has = h.has; own = h.own; leaders = in_next n 1 h }
  near-change n (Take e) g h =
      if_node-if (IsNear R) (is_taken n.table e) (record n { table = with_row e n.table })
      (record { has = h.has; own = h.own; leaders = h.leaders })
  near-change n (NominationTimer r) g h =
      if_node-if (IsNear R) _ (in_round n (r + 1)) (record { has = h.has; own = h.own; leaders = in_next n (r + 1) h })
  near-change n (BallotTimer c) g h =
      if_node-if (IsNear R) _ (with_timeout n) (record { has = h.has; own = h.own; leaders = h.leaders })
  near-change n (Reslice q) g h = record { has = h.has; own = g; leaders = h.leaders }

  near-step : (n : Node) (e : NodeEvent) → GivesWithin R e → IsNear R n → IsNear R (step n e).0
  near-step n e g h =
      step-keeps (IsNear R) (λ m k. record { has = k.has; own = k.own; leaders = k.leaders }) n e h
      (near-change n e g h)

  near-fresh : (slot v : ℕ) (q : Slices) → R v ≡ true → within (names q) R ≡ true → IsNear R (fresh slot v q)
  unfolding fresh
  near-fresh slot v q i w = record { has = i; own = w; leaders = refl }

  near-named : {n : Node} → HasNamed R n → IsNear R n
  near-named (begin slot v q i w) = near-fresh slot v q i w
  near-named (next {n} r e g) = near-step n e g (near-named r)

pub leaders_are_near : LeadersAreNear
leaders_are_near R n r = (near-named R r).leaders

-- ---- sets that are closed for a node
held-closed : (R : Names) (n : Node) → HoldsReach n.name n.slices n.table R → Closing R n.name n.slices n.table
held-closed R n held = record {
  has = held.itself;
  own = all_from R (names n.slices) held.configuration;
  rows = all_from_contained (announces_in R) n.table (λ e c. elim (cases_Bool (R e.sender)) [
    | inl i ↦ or_right (not (R e.sender)) (within (names e.slices) R) (all_from R (names e.slices) (held.rows e c i))
    | inr o ↦ or_left (not (R e.sender)) (within (names e.slices) R) (not_from_false (R e.sender) o)
  ]);
}

pub held_is_closed : HeldIsClosed
held_is_closed R n r held =
    let c = held-closed R n held in record { has = c.has; own = c.own; leaders = leaders_are_near R n r; rows = c.rows }

-- a list of the reach holds what the reach holds
pub reach_held : (n : Node) (us : List ℕ) → IsReach n.name n.slices n.table us
    → HoldsReach n.name n.slices n.table (among us)
reach_held n us r =
    subst (λ (set : Names). HoldsReach n.name n.slices n.table set) (sym (fun_ext r.exactly))
    (reached-holds n.name n.slices n.table)

-- ---- envelopes from outside
pub outsiders_add_rows : OutsidersAddRows
outsiders_add_rows R n e r held o l t = step-outside R n e (held-closed R n held) (calm-of-events r) o l t

pub strangers_add_rows : StrangersAddRows
strangers_add_rows n us e r is o l t = outsiders_add_rows (among us) n e r (reach_held n us is) o l t

pub outsiders_are_quiet : OutsidersAreQuiet
outsiders_are_quiet R n e r held o l = elim (cases_Bool (is_taken n.table e)) [
  | inl t ↦ subst (λ (p : Node × List Out). IsQuiet R n p.0 p.1) (sym (outsiders_add_rows R n e r held o l t)) (record {
    outs = refl;
    inputs = refl;
    votes = refl;
    rows = λ u k i. sym (row-cut R (with_row e n.table) u k i)
        ∙ (ap (λ (t : List Sent). row t u k) (cut-push_other R e n.table o) ∙ row-cut R n.table u k i);
  })
  | inr f ↦ subst (λ (p : Node × List Out). IsQuiet R n p.0 p.1) (sym (step-stale n e f))
      (record { outs = refl; inputs = refl; votes = refl; rows = λ u k i. refl })
]
