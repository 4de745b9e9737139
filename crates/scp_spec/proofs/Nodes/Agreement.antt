-- Agree, for one event: what is kept does the same on the rows of R alone, where R is closed for the node. `Runs`
-- stands on it.
use Rattle.scp_types.specs.declared.event.NodeEvent.{NodeEvent}
use Rattle.scp_types.specs.declared.event.Out.{Out}
use Rattle.std.proofs.Common.{◌≡◌, Bool, true, false, cond, ◌==◌, Option, Some, None, List, [], ◌∷◌, option_map, if◌then◌else◌, refl, sym, ◌∙◌, ap, ap₂, inl, inr}
use Rattle.std.proofs.lemmas.Bool.{and_parts, cases_Bool, eqb-true}
use Rattle.scp_types.specs.Statements.{Sent, kind_of}
use Rattle.scp_spec.specs.Sets.{Names, within}
use Rattle.scp_spec.specs.Satisfaction.{names}
use Rattle.scp_spec.specs.Rows.{row, is_kind, is_row_of, with_row, is_taken, replaces}
use Rattle.scp_spec.specs.Views.{Seen}
use Rattle.scp_types.specs.declared.state.Votes.{Votes}
use Rattle.scp_spec.specs.Passes.{pass}
use Rattle.scp_spec.specs.Nodes.{Node, after_pass, settle, change, outs, with_settled_votes, after_change, node_and_outs, step, most_passes}
use Rattle.scp_types.specs.declared.event.NodeEvent.TheVariants.{Propose, Take, NominationTimer, BallotTimer, Reslice}
use Rattle.scp_spec.proofs.Nodes.Views.{cut, row-cut, seen-cut}
use Rattle.scp_spec.proofs.Nodes.Closed.{Good, IsFit, good-change}
use Rattle.scp_spec.proofs.Nodes.Made.{if_node}

-- the node, with the rows of the senders in R alone
abbrev pub cut_node : Names → Node → Node
cut_node R n = record n { table = cut R n.table }

-- the event is of a sender in R, whose slices lie in R
abbrev pub IsKept : Names → NodeEvent → Type 0
IsKept R (Take e) = (R e.sender ≡ true) × (within (names e.slices) R ≡ true)
IsKept R _ = Unit {0}

-- a pass sees the rows of R alone
after_pass-cut : (R : Names) (n : Node) → Good R n → after_pass n ≡ after_pass (cut_node R n)
after_pass-cut R n g =
    ap {B = Votes → Votes} (λ (s : Seen) (w : Votes). pass n.name s n.inputs w)
    (seen-cut R n.name n.slices n.inputs.leaders n.table g.closed g.leaders)

option_map-if : {A B : Type 0} (f : A → B) (b : Bool) (a : A)
    → (if b then Some (f a) else None) ≡ option_map f (if b then Some a else None)
option_map-if f true a = refl
option_map-if f false a = refl

cut-push : (R : Names) (e : Sent) (table : List Sent) → R e.sender ≡ true
    → cut R (with_row e table) ≡ with_row e (cut R table)
unfolding with_row
cut-push R e [] i = ap (λ b. cond b (e ∷ []) []) i
cut-push R e (x ∷ xs) i = go (is_row_of e.sender (kind_of e.body) x) refl (cut-push R e xs i)
  where
    go : (b : Bool) → is_row_of e.sender (kind_of e.body) x ≡ b → cut R (with_row e xs) ≡ with_row e (cut R xs)
        → cut R (if b then e ∷ xs else x ∷ with_row e xs) ≡ with_row e (cond (R x.sender) (x ∷ cut R xs) (cut R xs))
    go true h ih =
        rw (
          i,
          ap R (eqb-true x.sender e.sender
              (and_parts (x.sender == e.sender) (is_kind (kind_of e.body) (kind_of x.body)) h).0) ∙ i,
          h,
        ) refl
    go false h ih = elim (cases_Bool (R x.sender)) [
      | inl r ↦ rw (r, h) (ap (λ ys. x ∷ ys) ih)
      | inr r ↦ rw r ih
    ]

-- the event's own change
change-cut : (R : Names) (n : Node) (e : NodeEvent) → IsKept R e
    → change (cut_node R n) e ≡ option_map (cut_node R) (change n e)
unfolding change is_taken
change-cut R n (Propose x) k = refl
change-cut R n (Take e) k =
    ap₂ (λ (b : Bool) (t : List Sent). if b then Some (record n { table = t }) else None)
    (ap (λ o. replaces e o) (row-cut R n.table e.sender (kind_of e.body) k.0)) (sym (cut-push R e n.table k.0))
    ∙ swap_if (replaces e (row n.table e.sender (kind_of e.body)))
  where
    swap_if : (b : Bool)
        → (if b then Some (record n { table = cut R (with_row e n.table) }) else None)
        ≡ option_map (cut_node R) (if b then Some (record n { table = with_row e n.table }) else None)
    swap_if true = refl
    swap_if false = refl
change-cut R n (NominationTimer r) k = option_map-if (cut_node R) _ _
change-cut R n (BallotTimer c) k = option_map-if (cut_node R) _ _
change-cut R n (Reslice q) k = refl

outs-cut : (R : Names) (n m : Node) → outs (cut_node R n) (cut_node R m) ≡ outs n m
unfolding outs
outs-cut R n m = refl

-- Agree, for one event: what is kept does the same on the rows of R alone
pub step-kept : (R : Names) (n : Node) (e : NodeEvent) → Good R n → IsFit R e → IsKept R e
    → step (cut_node R n) e ≡ (cut_node R (step n e).0, (step n e).1)
unfolding step
step-kept R n e g f k =
    ap (λ o. node_and_outs (cut_node R n) o)
    (ap after_change (change-cut R n e k) ∙ settled-cut (change n e) (good-change R n e g f))
    ∙ out (after_change (change n e))
  where
    settled-cut : (o : Option Node) → if_node (Good R) o
        → after_change (option_map (cut_node R) o) ≡ option_map (cut_node R) (after_change o)
    settled-cut None h = refl
    settled-cut (Some m) h =
        ap (λ (p : Votes → Votes). with_settled_votes (cut_node R m) (settle most_passes p m.votes))
        (sym (after_pass-cut R m h))
        ∙ same (settle most_passes (after_pass m) m.votes)
      where
        same : (o : Option Votes)
            → with_settled_votes (cut_node R m) o ≡ option_map (cut_node R) (with_settled_votes m o)
        same None = refl
        same (Some w) = refl

    out : (o : Option Node)
        → node_and_outs (cut_node R n) (option_map (cut_node R) o)
        ≡ (cut_node R (node_and_outs n o).0, (node_and_outs n o).1)
    out None = refl
    out (Some m) = ap {B = Node × List Out} (λ (os : List Out). (cut_node R m, os)) (outs-cut R n m)
