-- What an event emits is its node's, at its slot.
use Rattle.std.proofs.Common.{◌≡◌, ◌∙◌, ◌==◌, ◌&&◌, ◌+◌, ◌++◌, ℕ, zero, suc, Bool, true, false, not, cond, List, [], ◌∷◌, map, filter, Option, Some, None, is_none, slice_get, if◌then◌else◌, refl, sym, ap, subst}
use Rattle.std.specs.List.{AllByRecursion}
use Rattle.std.proofs.lemmas.Bool.{eqb-true}
use Rattle.scp_types.specs.Statements.{Sent}
use Rattle.scp_types.specs.declared.ballot.Ballot.{Ballot}
use Rattle.scp_types.specs.declared.statement.Statement.{Statement}
use Rattle.scp_types.specs.declared.state.Votes.{Votes}
use Rattle.scp_types.specs.declared.event.NodeEvent.{NodeEvent}
use Rattle.scp_types.specs.declared.event.NodeEvent.TheVariants.{Propose, Take, NominationTimer, BallotTimer, Reslice}
use Rattle.scp_types.specs.declared.event.Out.{Out}
use Rattle.scp_types.specs.declared.event.Out.TheVariants.{ArmNomination, ArmBallot, Emit, Externalized}
use Rattle.scp_types.specs.declared.event.Refusal.{Refusal}
use Rattle.scp_spec.specs.Rows.{is_taken, with_row}
use Rattle.scp_spec.specs.States.{counter_of, sent_nomination, sent_vote}
use Rattle.scp_spec.specs.Sameness.{same_sent}
use Rattle.scp_spec.specs.Nodes.{Node, after_change, node_and_outs, change, externalization, emission_between, fresh, in_round, is_counter_live, is_externalized, is_round_live, outs, after_pass, with_slices, settle, with_settled_votes, step, with_timeout, when, most_passes}
use Rattle.scp_spec.specs.Networks.{HostedNode, Net, Instance, Slot, Step, act, act_in, act_known, effect, emission, emissions, first_that, node_where_open, after_event, net_step, instances_of_new_slot, outs_at, node_named, instances_at, state_and_reply, tests}
use Rattle.scp_spec.specs.Networks.Reading.{Read, Fault}
use Rattle.scp_spec.specs.Networks.Step.{Opens, Closes, Proposes, Delivers, Hears, NominationTimerFires, BallotTimerFires, Reslices}
use Rattle.scp_spec.specs.Hosts.{Entry}
use Rattle.scp_spec.specs.Runs.{net_after}
use Rattle.host_network.specs.Marks.{slot_and_node_of}
use Rattle.line_run.specs.Unheard.{first_emitted}

-- all that is emitted is this node's, at this slot
abbrev pub IsGivenBy : ℕ → ℕ → List Out → Type 0
IsGivenBy i u os = AllByRecursion (λ e. (e.sender ≡ u) × (e.slot ≡ i)) (emissions os)

-- what an event gives out, by the slot and the node that it names
abbrev pub IsGivenAt : Option (ℕ × ℕ) → List Out → Type 0
IsGivenAt None os = os ≡ []
IsGivenAt (Some at) os = IsGivenBy at.0 at.1 os

-- ---- a node

module _ (i u : ℕ) where
  from-both : (xs ys : List Out) → IsGivenBy i u xs → IsGivenBy i u ys → IsGivenBy i u (xs ++ ys)
  from-both [] ys h k = k
  from-both (ArmNomination r ∷ xs) ys h k = from-both xs ys h k
  from-both (ArmBallot n ∷ xs) ys h k = from-both xs ys h k
  from-both (Emit e ∷ xs) ys h k = (h.0, from-both xs ys h.1 k)
  from-both (Externalized x ∷ xs) ys h k = from-both xs ys h k

  from-timer : (b : Bool) (x : Out) → IsGivenBy i u (x ∷ []) → IsGivenBy i u (when b x)
  from-timer true x h = h
  from-timer false x h = tt

  from-decided : (b : Bool) (x : Option Ballot) → IsGivenBy i u (if b then externalization x else [])
  from-decided true None = tt
  from-decided true (Some x) = tt
  from-decided false x = tt

from-emitted : (n : Node) (old new : Option Statement) → IsGivenBy n.slot n.name (emission_between n old new)
from-emitted n old None = tt
from-emitted n old (Some s) = go (same_sent old (Some s))
  where
    go : (b : Bool) → IsGivenBy n.slot n.name (if b then [] else Emit (record { sender = n.name; slot = n.slot; slices = n.slices; body = s }) ∷ [])
    go true = tt
    go false = ((refl, refl), tt)

outs-given-by : (old new : Node) → IsGivenBy new.slot new.name (outs old new)
unfolding outs
outs-given-by old new =
    let a = when (not (new.inputs.round == old.inputs.round) && is_none new.votes.confirmed_prepared) (ArmNomination new.inputs.round) in
    let b = when (not (new.votes.armed == old.votes.armed) && (new.votes.armed == counter_of new.votes.ballot) && not (is_externalized new.votes.phase)) (ArmBallot new.votes.armed) in
    let c = emission_between new (sent_nomination old.votes) (sent_nomination new.votes) in
    let d = emission_between new (sent_vote old.votes) (sent_vote new.votes) in
    let now = is_externalized new.votes.phase && not (is_externalized old.votes.phase) in
    let e = if now then externalization new.votes.ballot else [] in
    from-both new.slot new.name (((a ++ b) ++ c) ++ d) e
    (from-both new.slot new.name ((a ++ b) ++ c) d
    (from-both new.slot new.name (a ++ b) c
    (from-both new.slot new.name a b (from-timer new.slot new.name _ (ArmNomination new.inputs.round) tt) (from-timer new.slot new.name _ (ArmBallot new.votes.armed) tt))
    (from-emitted new (sent_nomination old.votes) (sent_nomination new.votes)))
    (from-emitted new (sent_vote old.votes) (sent_vote new.votes)))
    (from-decided new.slot new.name now new.votes.ballot)

-- ---- a step of a node

-- it is the node of this slot and this name still, and gives out what is its own
pub record StaysAt (i u : ℕ) (r : Node × List Out) : Type 0 where
  pub name : r.0.name ≡ u
  pub slot : r.0.slot ≡ i
  pub given : IsGivenBy i u r.1

with_settled_votes-stays : (n m : Node) (o : Option Votes) → m.name ≡ n.name → m.slot ≡ n.slot → StaysAt n.slot n.name (node_and_outs n (with_settled_votes m o))
with_settled_votes-stays n m None name slot = record { name = refl; slot = refl; given = tt }
with_settled_votes-stays n m (Some w) name slot =
    let new : Node = record m { votes = w } in
    record { name = name; slot = slot; given = subst (λ i. IsGivenBy i n.name (outs n new)) slot (subst (λ u. IsGivenBy m.slot u (outs n new)) name (outs-given-by n new)) }

stays : (n : Node) (b : Bool) (m : Node) → m.name ≡ n.name → m.slot ≡ n.slot → StaysAt n.slot n.name (node_and_outs n (after_change (if b then Some m else None)))
stays n false m name slot = record { name = refl; slot = refl; given = tt }
stays n true m name slot = with_settled_votes-stays n m (settle most_passes (after_pass m) m.votes) name slot

step-stays : (n : Node) (e : NodeEvent) → StaysAt n.slot n.name (step n e)
unfolding step change
step-stays n (Propose x) = stays n true (in_round (record n { inputs = record n.inputs { proposal = Some x } }) 1) refl refl
step-stays n (Take e) = stays n (is_taken n.table e) (record n { table = with_row e n.table }) refl refl
step-stays n (NominationTimer k) = stays n (is_round_live n k) (in_round n (k + 1)) refl refl
step-stays n (BallotTimer c) = stays n (is_counter_live n c) (with_timeout n) refl refl
step-stays n (Reslice q) = stays n true (with_slices n q) refl refl

-- ---- the instances of a network

-- at each open slot stand nodes of that slot
abbrev pub AreAt : ℕ → List Instance → Type 0
AreAt i ps = AllByRecursion (λ p. p.node.slot ≡ i) ps

abbrev pub AreInPlace : List Slot → Type 0
AreInPlace ss = AllByRecursion (λ s. AreAt s.number s.instances) ss

instances_of_new_slot-in-place : (nodes : List HostedNode) (i : ℕ) → AreAt i (instances_of_new_slot nodes i)
unfolding instances_of_new_slot fresh
instances_of_new_slot-in-place [] i = tt
instances_of_new_slot-in-place (h ∷ hs) i = (refl, instances_of_new_slot-in-place hs i)

after_event-in-place : (i : ℕ) (e : NodeEvent) (p : Instance) → p.node.slot ≡ i → (after_event e p).node.slot ≡ i
unfolding after_event
after_event-in-place i e p at = (step-stays p.node e).slot ∙ at

acted-in-place : (i u : ℕ) (e : NodeEvent) (ps : List Instance) → AreAt i ps → AreAt i (act_in u e ps)
acted-in-place i u e [] h = tt
acted-in-place i u e (p ∷ ps) h = (one (p.node.name == u), acted-in-place i u e ps h.1)
  where
    one : (b : Bool) → (if b then after_event e p else p).node.slot ≡ i
    one true = after_event-in-place i e p h.0
    one false = h.0

act-in-place : (net : Net) (i u : ℕ) (e : NodeEvent) → AreInPlace net.slots → AreInPlace (act net i u e).0.slots
unfolding act
act-in-place net i u e h = each net.slots h
  where
    each : (ss : List Slot) → AreInPlace ss → AreInPlace (map {B = Slot} (λ (s : Slot). if s.number == i then record s { instances = act_in u e s.instances } else s) ss)
    each [] h = tt
    each (s ∷ ss) h = (one (s.number == i), each ss h.1)
      where
        one : (b : Bool) → AreAt (if b then record s { instances = act_in u e s.instances } else s).number (if b then record s { instances = act_in u e s.instances } else s).instances
        one true = acted-in-place s.number u e s.instances h.0
        one false = h.0

pushed-in-place : (ss : List Slot) (s : Slot) → AreInPlace ss → AreAt s.number s.instances → AreInPlace (ss ++ s ∷ [])
pushed-in-place [] s h k = (k, tt)
pushed-in-place (x ∷ xs) s h k = (h.0, pushed-in-place xs s h.1 k)

left-in-place : (p : Slot → Bool) (ss : List Slot) → AreInPlace ss → AreInPlace (filter p ss)
left-in-place p [] h = tt
left-in-place p (s ∷ ss) h = go (p s) (left-in-place p ss h.1)
  where
    go : (b : Bool) → AreInPlace (filter p ss) → AreInPlace (cond b (s ∷ filter p ss) (filter p ss))
    go true k = (h.0, k)
    go false k = k

pub effect-in-place : (net : Net) (e : Step) → AreInPlace net.slots → AreInPlace (effect net e).0.slots
unfolding effect
effect-in-place net (Opens i) h = pushed-in-place net.slots (record { number = i; instances = instances_of_new_slot net.nodes i }) h (instances_of_new_slot-in-place net.nodes i)
effect-in-place net (Closes i) h = left-in-place (λ s. not (s.number == i)) net.slots h
effect-in-place net (Proposes i u x) h = act-in-place net i u (Propose x) h
effect-in-place net (Delivers u size (Read e)) h = act-in-place net e.slot u (Take e) h
effect-in-place net (Delivers u size (Fault n)) h = h
effect-in-place net (Hears i u from kind k) h = heard (emission (node_where_open (instances_at net.slots i) from) kind k)
  where
    heard : (o : Option Sent) → AreInPlace (act_known net i u o).0.slots
    heard None = h
    heard (Some e) = act-in-place net i u (Take e) h
effect-in-place net (NominationTimerFires i u r) h = act-in-place net i u (NominationTimer r) h
effect-in-place net (BallotTimerFires i u n) h = act-in-place net i u (BallotTimer n) h
effect-in-place net (Reslices i u q) h = act-in-place net i u (Reslice q) h

step-in-place : (net : Net) (e : Step) → AreInPlace net.slots → AreInPlace (net_step net e).0.slots
unfolding net_step
step-in-place net e h = go (first_that (tests net e))
  where
    go : (o : Option Refusal) → AreInPlace (state_and_reply net e o).0.slots
    go None = effect-in-place net e h
    go (Some n) = h

pub run-in-place : (net : Net) (entries : List Entry) → AreInPlace net.slots → AreInPlace (net_after net entries).slots
unfolding net_after
run-in-place net [] h = h
run-in-place net (x ∷ xs) h = run-in-place (net_step net x.event).0 xs (step-in-place net x.event h)

-- ---- what an event gives out

named-so : (ps : List Instance) (u : ℕ) (p : Instance) (i : ℕ) → node_named ps u ≡ Some p → AreAt i ps → (p.node.name ≡ u) × (p.node.slot ≡ i)
named-so [] u p i at h = absurd (cc)
named-so (q ∷ ps) u p i at h = go (q.node.name == u) refl at (λ k. named-so ps u p i k h.1)
  where
    go : (b : Bool) → (q.node.name == u) ≡ b → (if b then Some q else node_named ps u) ≡ Some p → (node_named ps u ≡ Some p → (p.node.name ≡ u) × (p.node.slot ≡ i)) → (p.node.name ≡ u) × (p.node.slot ≡ i)
    go true e k rest = let same : q ≡ p = cc in (sym (ap (λ (x : Instance). x.node.name) same) ∙ eqb-true q.node.name u e, sym (ap (λ (x : Instance). x.node.slot) same) ∙ h.0)
    go false e k rest = rest k

node_where_open-so : (ss : List Slot) (i u : ℕ) (p : Instance) → node_where_open (instances_at ss i) u ≡ Some p → AreInPlace ss → (p.node.name ≡ u) × (p.node.slot ≡ i)
node_where_open-so [] i u p at h = absurd (cc)
node_where_open-so (s ∷ ss) i u p at h = go (s.number == i) refl at (λ k. node_where_open-so ss i u p k h.1)
  where
    go : (b : Bool) → (s.number == i) ≡ b → node_where_open (if b then Some s.instances else instances_at ss i) u ≡ Some p → (node_where_open (instances_at ss i) u ≡ Some p → (p.node.name ≡ u) × (p.node.slot ≡ i)) → (p.node.name ≡ u) × (p.node.slot ≡ i)
    go true e k rest = let so = named-so s.instances u p s.number k h.0 in (so.0, so.1 ∙ eqb-true s.number i e)
    go false e k rest = rest k

pub act-given : (net : Net) (i u : ℕ) (e : NodeEvent) → AreInPlace net.slots → IsGivenBy i u (act net i u e).1
unfolding act
act-given net i u e h = go (node_where_open (instances_at net.slots i) u) refl
  where
    go : (o : Option Instance) → node_where_open (instances_at net.slots i) u ≡ o → IsGivenBy i u (outs_at e o)
    go None k = tt
    go (Some p) k =
        let so = node_where_open-so net.slots i u p k h in
        subst (λ j. IsGivenBy j u (step p.node e).1) so.1 (subst (λ w. IsGivenBy p.node.slot w (step p.node e).1) so.0 ((step-stays p.node e).given))

heard-given : (net : Net) (i u : ℕ) (o : Option Sent) → AreInPlace net.slots → IsGivenBy i u (act_known net i u o).1
heard-given net i u None h = tt
heard-given net i u (Some e) h = act-given net i u (Take e) h

pub effect-given : (net : Net) (e : Step) → AreInPlace net.slots → IsGivenAt (slot_and_node_of e) (effect net e).1
unfolding effect
effect-given net (Opens i) h = refl
effect-given net (Closes i) h = refl
effect-given net (Proposes i u x) h = act-given net i u (Propose x) h
effect-given net (Delivers u size (Read e)) h = act-given net e.slot u (Take e) h
effect-given net (Delivers u size (Fault n)) h = refl
effect-given net (Hears i u from kind k) h = heard-given net i u (emission (node_where_open (instances_at net.slots i) from) kind k) h
effect-given net (NominationTimerFires i u r) h = act-given net i u (NominationTimer r) h
effect-given net (BallotTimerFires i u n) h = act-given net i u (BallotTimer n) h
effect-given net (Reslices i u q) h = act-given net i u (Reslice q) h

-- ---- what was emitted first

pub first-from : (i u : ℕ) (os : List Out) (e : Sent) → IsGivenBy i u os → first_emitted os ≡ Some e → (e.sender ≡ u) × (e.slot ≡ i)
first-from i u [] e by is = absurd (cc)
first-from i u (ArmNomination r ∷ os) e by is = first-from i u os e by is
first-from i u (ArmBallot n ∷ os) e by is = first-from i u os e by is
first-from i u (Emit x ∷ os) e by is = let same : x ≡ e = cc in (sym (ap (λ (y : Sent). y.sender) same) ∙ by.0.0, sym (ap (λ (y : Sent). y.slot) same) ∙ by.0.1)
first-from i u (Externalized x ∷ os) e by is = first-from i u os e by is

-- one of them, by its place
pub one-from : (i u : ℕ) (es : List Sent) (n : ℕ) (x : Sent) → AllByRecursion (λ e. (e.sender ≡ u) × (e.slot ≡ i)) es → slice_get es n ≡ Some x → (x.sender ≡ u) × (x.slot ≡ i)
one-from i u [] n x by at = absurd (cc)
one-from i u (e ∷ es) zero x by at = let same : e ≡ x = cc in (sym (ap (λ (y : Sent). y.sender) same) ∙ by.0.0, sym (ap (λ (y : Sent). y.slot) same) ∙ by.0.1)
one-from i u (e ∷ es) (suc n) x by at = one-from i u es n x by.1 at
