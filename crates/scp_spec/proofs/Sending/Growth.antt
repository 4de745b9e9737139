-- What votes send never goes: sets of nominations do not shrink, and a ballot stays. `LastSent` stands on it.
use Rattle.std.proofs.Common.{◌≡◌, ℕ, ◌+◌, ◌-◌, ◌≤◌, Bool, true, false, not, take, length, filter, List, Option, Some, None, if◌then◌else◌, is_none, is_some, refl, sym, ◌∙◌, ap, subst, inl, inr, arith}
use Rattle.std.proofs.lemmas.Bool.{cases_Bool, false≢true}
use Rattle.scp_types.specs.declared.ballot.Ballot.{Ballot}
use Rattle.scp_types.specs.declared.event.NodeEvent.{NodeEvent}
use Rattle.scp_types.specs.declared.event.NodeEvent.TheVariants.{Propose, Take, NominationTimer, BallotTimer, Reslice}
use Rattle.scp_types.specs.declared.state.Phase.{Phase}
use Rattle.scp_types.specs.declared.state.Phase.TheVariants.{Preparing, Committing, Externalized}
use Rattle.scp_types.specs.declared.state.Inputs.{Inputs}
use Rattle.scp_types.specs.declared.state.Votes.{Votes}
use Rattle.scp_types.specs.Votes.{has_value}
use Rattle.scp_spec.specs.Rows.{with_row, is_taken}
use Rattle.scp_spec.specs.Views.{Seen, seen}
use Rattle.scp_spec.specs.Candidates.{combine, as_set, with_up_to_sixteen}
use Rattle.scp_spec.specs.Nominating.{nominate}
use Rattle.scp_spec.specs.Balloting.{with_first_ballot, start_from, start, accept_prepared, raise_confirmed_prepared, follow_confirmed_prepared, set_commit, confirm_prepared, enter_commit, widen_commit, first_committed, next_committed, accept_commit, externalize, confirmed_commit, confirm_commit}
use Rattle.scp_spec.specs.Passes.{raise, arm, pass}
use Rattle.scp_spec.specs.Nodes.{Node, change, after_change, at_next_counter, in_round, with_timeout}
use Rattle.scp_spec.proofs.Nodes.Made.{if_node, if_node-if, with_settled_votes-keeps}
use Rattle.scp_spec.proofs.Balloting.Counters.{arm-moves}
use Rattle.scp_spec.proofs.Nominating.Lengths.{all-longer}
use Rattle.scp_spec.proofs.Nominating.Sets.{nominate-is, nominate-not, echoes, sources}
use Rattle.scp_spec.proofs.Passes.KeptByPasses.{kept-by_pass}
use Rattle.scp_spec.proofs.Sets.Numbers.{through}

-- no set of nominations is shorter than it was, and there is a ballot where there was one
pub record Grows (old w : Votes) : Type 0 where
  pub voted : length old.voted ≤ length w.voted
  pub accepts : length old.accepts ≤ length w.accepts
  pub ballot : is_some old.ballot ≡ true → is_some w.ballot ≡ true

pub grows-self : (w : Votes) → Grows w w
grows-self w = record { voted = omega arith; accepts = omega arith; ballot = λ h. h }

with_up_to_sixteen-longer : (old new : List (List ℕ)) → length old ≤ length (with_up_to_sixteen old new)
unfolding with_up_to_sixteen
with_up_to_sixteen-longer old new =
    (all-longer (take (16 - length old) (filter (λ x. not (has_value old x)) (as_set new))) old).0

-- each rule keeps that
module _ (old : Votes) where
  nominate-grows : (v : ℕ) (s : Seen) (g : Inputs) (w : Votes) → Grows old w → Grows old (nominate v s g w)
  nominate-grows v s g w h = elim (cases_Bool (is_none w.confirmed_prepared)) [
    | inr e ↦ subst (Grows old) (sym (nominate-not v s g w e)) h
    | inl e ↦ subst (Grows old) (sym (nominate-is v s g w e)) (record {
      voted = through (length old.voted) (length w.voted) _ h.voted (longer (echoes g w.confirms));
      accepts = through (length old.accepts) (length w.accepts) _ h.accepts (with_up_to_sixteen-longer w.accepts _);
      ballot = h.ballot;
    })
  ]
    where
      longer : (b : Bool) → length w.voted ≤ length (if b then with_up_to_sixteen w.voted (sources v s g) else w.voted)
      longer true = with_up_to_sixteen-longer w.voted (sources v s g)
      longer false = omega arith

  start-grows : (s : Seen) (w : Votes) → Grows old w → Grows old (start s w)
  unfolding start with_first_ballot
  start-grows s w h = go w.ballot refl
    where
      begun : (o : Option (List ℕ)) → w.ballot ≡ None → Grows old (with_first_ballot s w o)
      begun None e =
          record {
            voted = h.voted;
            accepts = h.accepts;
            ballot = λ k. absurd (false≢true (sym (ap (λ (b : Option Ballot). is_some b) e) ∙ h.ballot k));
          }
      begun (Some x) e = record { voted = h.voted; accepts = h.accepts; ballot = λ k. refl }

      go : (o : Option Ballot) → w.ballot ≡ o → Grows old (start_from s w o)
      go None e = begun (combine w.confirms) e
      go (Some b) e = h

  prepared-grows : (s : Seen) (b : Ballot) (w : Votes) → Grows old w → Grows old (accept_prepared s b w)
  unfolding accept_prepared
  prepared-grows s b w h = record { voted = h.voted; accepts = h.accepts; ballot = h.ballot }

  confirmed-grows : (s : Seen) (b : Ballot) (w : Votes) → Grows old w → Grows old (confirm_prepared s b w)
  unfolding confirm_prepared set_commit follow_confirmed_prepared raise_confirmed_prepared
  confirmed-grows s b w h = record { voted = h.voted; accepts = h.accepts; ballot = λ k. refl }

  accept-grows : (p : Phase) (s : Seen) (b : Ballot) (w : Votes) → Grows old w → Grows old (accept_commit p s b w)
  unfolding accept_commit enter_commit widen_commit
  accept-grows Preparing s b w h = go (first_committed s w)
    where
      go : (o : Option Ballot) → Grows old (enter_commit s b w o)
      go None = h
      go (Some t) = record { voted = h.voted; accepts = h.accepts; ballot = λ k. refl }
  accept-grows Committing s b w h = go (next_committed s b w)
    where
      go : (o : Option Ballot) → Grows old (widen_commit s b w o)
      go None = h
      go (Some t) = record { voted = h.voted; accepts = h.accepts; ballot = λ k. refl }
  accept-grows Externalized s b w h = h

  confirm-grows : (p : Phase) (s : Seen) (b : Ballot) (w : Votes) → Grows old w → Grows old (confirm_commit p s b w)
  unfolding confirm_commit externalize
  confirm-grows Preparing s b w h = h
  confirm-grows Committing s b w h = go (confirmed_commit s b w)
    where
      go : (o : Option Ballot) → Grows old (externalize s w o)
      go None = h
      go (Some t) = record { voted = h.voted; accepts = h.accepts; ballot = h.ballot }
  confirm-grows Externalized s b w h = h

  raise-grows : (s : Seen) (g : Inputs) (b : Ballot) (w : Votes) → Grows old w → Grows old (raise s g b w)
  unfolding raise
  raise-grows s g b w h = record { voted = h.voted; accepts = h.accepts; ballot = λ k. refl }

  arm-grows : (s : Seen) (b : Ballot) (w : Votes) → Grows old w → Grows old (arm s b w)
  arm-grows s b w h =
      subst (Grows old) (sym (arm-moves s b w).1) (record { voted = h.voted; accepts = h.accepts; ballot = h.ballot })

  pass-grows : (v : ℕ) (s : Seen) (g : Inputs) (w : Votes) → Grows old w → Grows old (pass v s g w)
  pass-grows v s g =
      kept-by_pass (Grows old) v s g (record {
        nominates = nominate-grows v s g;
        starts = start-grows s;
        prepares = prepared-grows s;
        confirms_prepared = λ b w p e. confirmed-grows s b w;
        accepts = λ b w e. accept-grows w.phase s b w;
        confirms = λ b w. confirm-grows w.phase s b w;
        raises = λ b w e. raise-grows s g b w;
        arms = arm-grows s;
      })

  -- so does an event's own change
  abbrev NodeGrows : Node → Type 0
  NodeGrows m = Grows old m.votes

  at_next_counter-grows : (w : Votes) (o : Option Ballot) → Grows old w → Grows old (at_next_counter w o)
  at_next_counter-grows w None h = h
  at_next_counter-grows w (Some b) h = record { voted = h.voted; accepts = h.accepts; ballot = λ k. refl }

  change-grows : (n : Node) (e : NodeEvent) → NodeGrows n → if_node NodeGrows (change n e)
  unfolding change
  change-grows n (Propose x) h = h
  change-grows n (Take e) h = if_node-if NodeGrows (is_taken n.table e) (record n { table = with_row e n.table }) h
  change-grows n (NominationTimer r) h = if_node-if NodeGrows _ (in_round n (r + 1)) h
  change-grows n (BallotTimer c) h =
      if_node-if NodeGrows _ (with_timeout n) (at_next_counter-grows n.votes n.votes.ballot h)
  change-grows n (Reslice q) h = h

pub event-grows : (n : Node) (e : NodeEvent) → if_node (λ m. Grows n.votes m.votes) (after_change (change n e))
event-grows n e = with_settled_votes-keeps (NodeGrows n.votes) (λ m. pass-grows n.votes m.name
    (seen m.name m.slices m.inputs.leaders m.table) m.inputs m.votes) (change n e)
    (change-grows n.votes n e (grows-self n.votes))
