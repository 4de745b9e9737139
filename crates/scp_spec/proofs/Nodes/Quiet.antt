-- Quiet, for one event: an envelope from outside R changes at most rows outside R, and gives no outs. `Runs` and the
-- crate `node_core` stand on it.
use Rattle.scp_types.specs.declared.event.Out.{Out}
use Rattle.std.proofs.Common.{◌≡◌, ℕ, Bool, true, false, not, cond, ◌&&◌, ◌==◌, Option, Some, None, List, [], ◌∷◌, option_map, if◌then◌else◌, refl, sym, ◌∙◌, ap, ap₂, subst, inl, inr}
use Rattle.std.specs.List.{cons_option}
use Rattle.std.proofs.lemmas.Bool.{and_left, and_parts, cases_Bool, eqb-true, false_from_ne_true, not_from_false, or_left, or_parts, true≢false}
use Rattle.scp_types.specs.Trees.{Slices}
use Rattle.scp_types.specs.Statements.{Sent, kind_of}
use Rattle.scp_types.specs.declared.statement.Statement.{Statement}
use Rattle.scp_types.specs.declared.kind.Kind.TheVariants.{Nomination}
use Rattle.scp_spec.specs.Sets.{Names, among, within}
use Rattle.scp_spec.specs.Satisfaction.{names}
use Rattle.scp_spec.specs.Rows.{row, is_kind, is_row_of, with_row, is_taken}
use Rattle.scp_spec.specs.Views.{Seen, led_by, seen}
use Rattle.scp_types.specs.declared.state.Votes.{Votes}
use Rattle.scp_spec.specs.States.{sent_vote, sent_nomination}
use Rattle.scp_spec.specs.Passes.{pass}
use Rattle.scp_spec.specs.Nodes.{Node, after_pass, change, emission_between, externalization, outs, with_settled_votes, after_change, node_and_outs, step, Calm, is_externalized}
use Rattle.scp_types.specs.declared.event.NodeEvent.TheVariants.{Take}
use Rattle.scp_types.specs.declared.event.Out.TheVariants.{Emit}
use Rattle.scp_spec.proofs.Equality.Sameness.{eqb-refl, same_sent-refl}
use Rattle.scp_spec.proofs.Sets.Finite.{within-at}
use Rattle.scp_spec.proofs.Sets.Numbers.{turned}
use Rattle.scp_spec.proofs.Statements.Offers.{row-with}
use Rattle.scp_spec.proofs.Nodes.Views.{cut, announces_in, Closing, seen-cut}
use Rattle.scp_spec.proofs.Nodes.Agreement.{cut_node}
use Rattle.scp_spec.proofs.Nodes.Closed.{Good, all-with}
use Rattle.scp_spec.proofs.Nodes.Calm.{settle-still}
use Rattle.scp_spec.proofs.Nodes.Made.{said_by}

pub cut-push_other : (R : Names) (e : Sent) (table : List Sent) → R e.sender ≡ false
    → cut R (with_row e table) ≡ cut R table
unfolding with_row
cut-push_other R e [] o = ap (λ b. cond b (e ∷ []) []) o
cut-push_other R e (x ∷ xs) o = go (is_row_of e.sender (kind_of e.body) x) refl (cut-push_other R e xs o)
  where
    go : (b : Bool) → is_row_of e.sender (kind_of e.body) x ≡ b → cut R (with_row e xs) ≡ cut R xs
        → cut R (if b then e ∷ xs else x ∷ with_row e xs) ≡ cond (R x.sender) (x ∷ cut R xs) (cut R xs)
    go true h ih =
        rw (
          o,
          ap R (eqb-true x.sender e.sender
              (and_parts (x.sender == e.sender) (is_kind (kind_of e.body) (kind_of x.body)) h).0) ∙ o,
        ) refl
    go false h ih = ap (λ ys. cond (R x.sender) (x ∷ ys) ys) ih

emission_between-same : (n : Node) (o : Option Statement) → emission_between n o o ≡ []
emission_between-same n None = refl
emission_between-same n (Some s) =
    ap (λ b. if b then [] else Emit (said_by n s) ∷ [])
    (same_sent-refl (Some s))

never : (b : Bool) (os : List Out) → (if b && not b then os else []) ≡ []
never true os = refl
never false os = refl

-- nothing is sent where nothing changed
pub outs-none : (n : Node) (taken : List Sent) → outs n (record n { table = taken }) ≡ []
unfolding outs
outs-none n taken =
    let m : Node = record n { table = taken } in
    let r : (n.inputs.round == n.inputs.round) ≡ true = eqb-refl n.inputs.round in
    let a : (n.votes.armed == n.votes.armed) ≡ true = eqb-refl n.votes.armed in
    rw (
      r,
      a,
      emission_between-same m (sent_nomination n.votes),
      emission_between-same m (sent_vote n.votes),
      never (is_externalized n.votes.phase) (externalization n.votes.ballot),
    )

-- an envelope that the table takes is a row more, and gives nothing out, where one more pass changes nothing behind it
pub row-alone : (n : Node) (e : Sent) → is_taken n.table e ≡ true → Calm (record n { table = with_row e n.table })
    → step n (Take e) ≡ (record n { table = with_row e n.table }, [])
unfolding step change
row-alone n e t c =
    let m : Node = record n { table = with_row e n.table } in
    ap (λ b. node_and_outs n (after_change (if b then Some m else None))) t
    ∙ (ap (λ (w : Option Votes). node_and_outs n (with_settled_votes m w)) (settle-still 63 (after_pass m) n.votes c)
    ∙ ap {B = Node × List Out} (λ (os : List Out). (m, os)) (outs-none n (with_row e n.table)))

-- ---- envelopes from outside
-- the rows of leaders are as they were where the sender of a new one is none
led_by-other : (leaders : List ℕ) (table : List Sent) (e : Sent) → among leaders e.sender ≡ false
    → led_by leaders (with_row e table) ≡ led_by leaders table
unfolding led_by
led_by-other [] table e l = refl
led_by-other (u ∷ us) table e l =
    let p = or_parts (u == e.sender) (among us e.sender) l in
    ap₂ (λ (r : Option Sent) (ys : List Statement). cons_option (option_map (λ (x : Sent). x.body) r) ys)
    (row-with e table u Nomination ∙ ap (λ b. if b then Some e else row table u Nomination)
    (and_left (e.sender == u) (is_kind Nomination (kind_of e.body)) (turned u e.sender p.0)))
    (led_by-other us table e p.1)

-- a row of a sender that is neither in R nor a leader is not seen
seen-outside : (R : Names) (v : ℕ) (q : Slices) (leaders : List ℕ) (table : List Sent) (e : Sent) → Closing R v q table
    → R e.sender ≡ false → among leaders e.sender ≡ false
    → seen v q leaders (with_row e table) ≡ seen v q leaders table
unfolding seen
seen-outside R v q leaders table e c o l =
    λ i. record {
      rows = (bare i).rows;
      led = (led_by-other leaders table e l) i;
      quorum = (bare i).quorum;
      blocking = (bare i).blocking;
    }
  where
    more : Closing R v q (with_row e table)
    more = record {
      has = c.has;
      own = c.own;
      rows = all-with (announces_in R) e table c.rows
          (or_left (not (R e.sender)) (within (names e.slices) R) (not_from_false (R e.sender) o));
    }

    bare : seen v q [] (with_row e table) ≡ seen v q [] table
    bare = seen-cut R v q [] (with_row e table) more refl
        ∙ (ap {B = Seen} (λ t. seen v q [] t) (cut-push_other R e table o) ∙ sym (seen-cut R v q [] table c refl))

-- an envelope that the table takes is a row more where its sender is neither in R nor a leader: nothing else changes,
-- and nothing is given out
pub step-outside : (R : Names) (n : Node) (e : Sent) → Closing R n.name n.slices n.table → Calm n → R e.sender ≡ false
    → among n.inputs.leaders e.sender ≡ false → is_taken n.table e ≡ true
    → step n (Take e) ≡ (record n { table = with_row e n.table }, [])
step-outside R n e h c o l t =
    row-alone n e t (ap {B = Votes} (λ (s : Seen). pass n.name s n.inputs n.votes)
    (seen-outside R n.name n.slices n.inputs.leaders n.table e h o l) ∙ c)

-- leaders in R are not outside of it
no_leader : (R : Names) (leaders : List ℕ) (u : ℕ) → within leaders R ≡ true → R u ≡ false → among leaders u ≡ false
no_leader R leaders u w o = false_from_ne_true _ (λ i. true≢false (sym (within-at leaders R u w i) ∙ o))

-- what is stale changes nothing
pub step-stale : (n : Node) (e : Sent) → is_taken n.table e ≡ false → step n (Take e) ≡ (n, [])
unfolding step change
step-stale n e f =
    ap (λ b. node_and_outs n (after_change (if b then Some (record n { table = with_row e n.table }) else None))) f

-- Quiet, for one event: an envelope from outside R changes at most rows outside R, and gives no outs
pub step-quiet : (R : Names) (n : Node) (e : Sent) → Good R n → Calm n → R e.sender ≡ false
    → (cut_node R (step n (Take e)).0 ≡ cut_node R n) × ((step n (Take e)).1 ≡ [])
step-quiet R n e g c o = elim (cases_Bool (is_taken n.table e)) [
  | inl t ↦ subst (λ (p : Node × List Out). (cut_node R p.0 ≡ cut_node R n) × (p.1 ≡ []))
      (sym (step-outside R n e g.closed c o (no_leader R n.inputs.leaders e.sender g.leaders o) t))
      (ap {B = Node} (λ t. record n { table = t }) (cut-push_other R e n.table o), refl)
  | inr f ↦ subst (λ (p : Node × List Out). (cut_node R p.0 ≡ cut_node R n) × (p.1 ≡ []))
      (sym (step-stale n e f)) (refl, refl)
]
