-- A step keeps the node's name, and what it emits carries that name and the slices that the node has after it. `Runs`
-- and the crate `host_network` stand on it.
use Rattle.scp_types.specs.declared.event.NodeEvent.{NodeEvent}
use Rattle.scp_types.specs.declared.event.Out.{Out}
use Rattle.std.proofs.Common.{◌≡◌, ℕ, ◌+◌, Bool, true, false, not, ◌&&◌, ◌==◌, Option, Some, None, List, [], ◌∷◌, ◌++◌, if◌then◌else◌, is_none, refl, ◌∙◌, ap}
use Rattle.std.specs.List.{list_all}
use Rattle.std.proofs.lemmas.Bool.{and_from}
use Rattle.scp_types.specs.Statements.{Sent}
use Rattle.scp_types.specs.declared.ballot.Ballot.{Ballot}
use Rattle.scp_types.specs.declared.statement.Statement.{Statement}
use Rattle.scp_spec.specs.Rows.{with_row, is_taken}
use Rattle.scp_spec.specs.States.{counter_of, sent_vote, sent_nomination}
use Rattle.scp_spec.specs.Sameness.{same_sent}
use Rattle.scp_spec.specs.Nodes.{Node, change, when, emission_between, externalization, outs, after_change, node_and_outs, step, is_externalized, in_round, with_timeout}
use Rattle.scp_types.specs.declared.event.NodeEvent.TheVariants.{Propose, Take, NominationTimer, BallotTimer, Reslice}
use Rattle.scp_types.specs.declared.event.Out.TheVariants.{ArmNomination, ArmBallot, Emit}
use Rattle.scp_spec.specs.Networks.{emission_of, emissions}
use Rattle.std.proofs.lemmas.List.Elements.{filter_map-append}
use Rattle.scp_spec.proofs.Sets.Lists.{all-append}
use Rattle.scp_spec.proofs.Nodes.Made.{said_by, if_node, if_node-if, with_settled_votes-keeps, step-keeps}

-- a step keeps the name
abbrev pub IsSelf : Node → Node → Type 0
IsSelf n m = m.name ≡ n.name

self-change : (n : Node) (e : NodeEvent) → if_node (IsSelf n) (change n e)
unfolding change
self-change n (Propose x) = refl
self-change n (Take e) = if_node-if (IsSelf n) (is_taken n.table e) (record n { table = with_row e n.table }) refl
self-change n (NominationTimer r) = if_node-if (IsSelf n) _ (in_round n (r + 1)) refl
self-change n (BallotTimer c) = if_node-if (IsSelf n) _ (with_timeout n) refl
self-change n (Reslice q) = refl

pub step-self : (n : Node) (e : NodeEvent) → IsSelf n (step n e).0
step-self n e = step-keeps (IsSelf n) (λ m h. h) n e refl (self-change n e)

-- what is emitted carries the node's name, and the slices that it has after the event
record Emits (P : Sent → Bool) (os : List Out) : Type 0 where
  all : list_all P (emissions os) ≡ true

both_emit : (P : Sent → Bool) {xs ys : List Out} → Emits P xs → Emits P ys → Emits P (xs ++ ys)
both_emit P {xs} {ys} h k =
    record {
      all = ap (list_all P) (filter_map-append emission_of xs ys)
          ∙ all-append P (emissions xs) (emissions ys) h.all k.all;
    }

outs-emit : (P : Sent → Bool) (old new : Node)
    → ((s : Statement) → P (said_by new s) ≡ true) → Emits P (outs old new)
unfolding outs
outs-emit P old new f =
    both_emit P (both_emit P (both_emit P (both_emit P
    (armed (not (new.inputs.round == old.inputs.round) && is_none new.votes.confirmed_prepared)
    (ArmNomination new.inputs.round) refl)
    (armed (not (new.votes.armed == old.votes.armed) && (new.votes.armed == counter_of new.votes.ballot)
    && not (is_externalized new.votes.phase)) (ArmBallot new.votes.armed) refl))
    (sent (sent_nomination old.votes) (sent_nomination new.votes)))
    (sent (sent_vote old.votes) (sent_vote new.votes)))
    (last (is_externalized new.votes.phase && not (is_externalized old.votes.phase)) new.votes.ballot)
  where
    armed : (b : Bool) (o : Out) → list_all P (emissions (o ∷ [])) ≡ true → Emits P (when b o)
    armed true o h = record { all = h }
    armed false o h = record { all = refl }

    sent : (old_one new_one : Option Statement) → Emits P (emission_between new old_one new_one)
    sent a None = record { all = refl }
    sent a (Some s) = go (same_sent a (Some s))
      where
        go : (b : Bool) → Emits P (if b then [] else Emit (said_by new s) ∷ [])
        go true = record { all = refl }
        go false = record { all = and_from (P (said_by new s)) true (f s) refl }

    last : (b : Bool) (o : Option Ballot) → Emits P (if b then externalization o else [])
    last true None = record { all = refl }
    last true (Some b) = record { all = refl }
    last false o = record { all = refl }

pub step-emit : (P : Sent → Bool) (n : Node) (e : NodeEvent)
    → ((slot : ℕ) (s : Statement) → P (record { sender = n.name; slot = slot; slices = (step n e).0.slices; body = s })
    ≡ true) → list_all P (emissions (step n e).1) ≡ true
unfolding step
step-emit P n e f =
    go (after_change (change n e)) (with_settled_votes-keeps (IsSelf n) (λ m h. h) (change n e) (self-change n e)) f
  where
    go : (o : Option Node) → if_node (IsSelf n) o
        → ((slot : ℕ) (s : Statement) → P
        (record { sender = n.name; slot = slot; slices = (node_and_outs n o).0.slices; body = s }) ≡ true)
        → list_all P (emissions (node_and_outs n o).1) ≡ true
    go None h f = refl
    go (Some m) h f = (outs-emit P n m (λ s. rw h (f m.slot s))).all
