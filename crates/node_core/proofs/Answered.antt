-- How an answer leads to the step's: the votes that settle, and what the node of them sends.
use Rattle.std.proofs.Common.{refl, ◌≡◌, ℕ, ◌+◌, ◌<◌, Bool, true, false, not, ◌&&◌, ◌==◌, nat_lt, List, [], Option, Some, None, Result, Ok, Err, IfOk, OnOk, option_map, is_some, if◌then◌else◌, subst, ◌∙◌, sym, ap, ◌⊎◌, arith}
use Rattle.std.specs.Prelude.{IfSome, IsFalse, IsTrue}
use Rattle.std.proofs.lemmas.Bool.{and_parts, eqb-true}
use Rattle.std.proofs.lemmas.Bool.Decides.{nat_tests}
use Rattle.scp_types.specs.Trees.{Slices}
use Rattle.scp_types.specs.Statements.{Sent}
use Rattle.scp_types.specs.declared.ballot.Ballot.{Ballot}
use Rattle.scp_types.specs.declared.event.NodeEvent.{NodeEvent}
use Rattle.scp_types.specs.declared.event.NodeEvent.TheVariants.{Propose, Take, NominationTimer, BallotTimer, Reslice}
use Rattle.scp_types.specs.declared.event.Out.{Out}
use Rattle.scp_types.specs.declared.state.Inputs.{Inputs}
use Rattle.scp_types.specs.declared.state.Votes.{Votes}
use Rattle.scp_spec.specs.Rows.{row, with_row}
use Rattle.scp_spec.specs.States.{counter_of}
use Rattle.scp_spec.specs.Timers.{is_nomination_timer_live, is_ballot_timer_live}
use Rattle.scp_spec.specs.Nodes.{Node, after_pass, settle, change, with_settled_votes, after_change, node_and_outs, outs, step, in_round, with_timeout, at_next_counter, is_externalized, most_passes}
use Rattle.scp_spec.specs.Limits.{ComesOfEvents}
use Rattle.scp_spec.specs.Limits.ComesOfEvents.{next}
use Rattle.scp_spec.proofs.Nodes.Lawful.{sends-of-events}
use Rattle.scp_spec.proofs.Passes.Settling.{never_limited}
use Rattle.scp_spec.specs.Claims.{IsQuiet}
use Rattle.scp_spec.specs.Reach.{HoldsReach}
use Rattle.scp_spec.proofs.Nodes.Strangers.{outsiders_are_quiet}
use Rattle.scp_spec.specs.Sets.{Names, among}
use Rattle.node_store.specs.declared.filed.Filed.{Filed}
use Rattle.node_store.specs.Archives.{sents_of}
use Rattle.node_table.specs.declared.table.Put.{Put}
use Rattle.node_table.specs.declared.table.Put.TheVariants.{Added, Replaced, Stale}
use Rattle.node_table.specs.Puts.{IsPut}
use Rattle.node_view.specs.declared.configured.Configured.{Configured}
use Rattle.node_view.proofs.Offers.{put-takes}
use Rattle.node_view.specs.Listening.{ListenerState}
use Rattle.node_core.specs.Listening.{FiledNode, node_of}
use Rattle.node_core.specs.declared.filed.GivenOut.{GivenOut}
use Rattle.node_core.specs.declared.changes.Changed.{Changed}
use Rattle.node_core.specs.NodeParts.{ChangesTo, IsBeforePasses, SendWellFormed, inputs_in_round, node_from_parts, with_changed}

-- the node that is held
abbrev pub node_in : FiledNode → Node
node_in h = h.node

-- the votes that an event changes settle within the limit
pub settles_of : (m : Node) → IsBeforePasses m → IsTrue (is_some (settle most_passes (after_pass m) m.votes))
settles_of m d = never_limited d.before d.reached d.event m d.is

-- what they send once they settle is well formed
pub sends_of : (m : Node) → IsBeforePasses m → IfSome (settle most_passes (after_pass m) m.votes) SendWellFormed
unfolding step
sends_of m d = go (settle most_passes (after_pass m) m.votes) (subst (λ (o : Option Node). ComesOfEvents (node_and_outs d.before (after_change o)).0) d.is (next d.reached d.event))
  where
    go : (o : Option Votes) → ComesOfEvents (node_and_outs d.before (with_settled_votes m o)).0 → IfSome o SendWellFormed
    go None r = tt
    go (Some w) r = sends-of-events r

-- a step is the answer to its change
pub step-is : (n : Node) (e : NodeEvent) (o : Option Node) → change n e ≡ o → step n e ≡ node_and_outs n (after_change o)
unfolding step
step-is n e o h = ap (λ (o : Option Node). node_and_outs n (after_change o)) h

-- ---- the changes, from the parts of the node
-- what is made of a node is made of each that is the same
made-of : (m n : Node) (event : NodeEvent) (a d : Changed) → m ≡ n → change m event ≡ Some (with_changed m a) → d ≡ a → ChangesTo n event (Some d)
made-of m n event a d e made is = ap (λ x. change x event) (sym e) ∙ made ∙ (λ i. Some (with_changed (e i) (sym is i)))

-- a round begins with the same leader where the same is configured
led-by : (k c : Configured) (inputs : Inputs) (votes : Votes) (round : ℕ) (d : Changed) → k ≡ c → d ≡ record { inputs = inputs_in_round k inputs round; votes = votes } → d ≡ record { inputs = inputs_in_round c inputs round; votes = votes }
led-by k c inputs votes round d same is = is ∙ (λ i. record { inputs = inputs_in_round (same i) inputs round; votes = votes })

pub change-propose : (k : Configured) (h : ListenerState) (inputs : Inputs) (votes : Votes) (n : Node) (x : List ℕ) (d : Changed) → node_of h inputs votes ≡ n → k ≡ h.configured
    → d ≡ record { inputs = inputs_in_round k (record inputs { proposal = Some x }) 1; votes = votes } → ChangesTo n (Propose x) (Some d)
unfolding change
change-propose k h inputs votes n x d e same is =
    made-of (node_of h inputs votes) n (Propose x) (record { inputs = inputs_in_round h.configured (record inputs { proposal = Some x }) 1; votes = votes }) d e refl (led-by k h.configured (record inputs { proposal = Some x }) votes 1 d same is)

pub change-round : (k : Configured) (h : ListenerState) (inputs : Inputs) (votes : Votes) (n : Node) (r : ℕ) (d : Changed) → node_of h inputs votes ≡ n → is_nomination_timer_live r inputs.round (is_some votes.confirmed_prepared) ≡ true
    → k ≡ h.configured → d ≡ record { inputs = inputs_in_round k inputs (r + 1); votes = votes } → ChangesTo n (NominationTimer r) (Some d)
unfolding change
change-round k h inputs votes n r d e live same is =
    let m = node_of h inputs votes in
    made-of m n (NominationTimer r) (record { inputs = inputs_in_round h.configured inputs (r + 1); votes = votes }) d e (ap (λ b. if b then Some (in_round m (r + 1)) else None) live) (led-by k h.configured inputs votes (r + 1) d same is)

pub change-no_round : (h : ListenerState) (inputs : Inputs) (votes : Votes) (n : Node) (r : ℕ) → node_of h inputs votes ≡ n → is_nomination_timer_live r inputs.round (is_some votes.confirmed_prepared) ≡ false → change n (NominationTimer r) ≡ None
unfolding change
change-no_round h inputs votes n r e dead = ap (λ m. change m (NominationTimer r)) (sym e) ∙ ap (λ b. if b then Some (in_round (node_of h inputs votes) (r + 1)) else None) dead

-- the counter of a ballot, where there is one
abbrev pub counter_in : Option Ballot → Option ℕ
counter_in o = option_map (λ (b : Ballot). b.counter) o

pub change-counter : (h : ListenerState) (inputs : Inputs) (votes : Votes) (n : Node) (k : ℕ) (d : Changed) → node_of h inputs votes ≡ n → is_ballot_timer_live k votes.armed (counter_in votes.ballot) (is_externalized votes.phase) ≡ true
    → d ≡ record { inputs = record inputs { ballot_timeouts = inputs.ballot_timeouts + 1 }; votes = at_next_counter votes votes.ballot } → ChangesTo n (BallotTimer k) (Some d)
unfolding change
change-counter h inputs votes n k d e live is =
    let m = node_of h inputs votes in
    made-of m n (BallotTimer k) (record { inputs = record inputs { ballot_timeouts = inputs.ballot_timeouts + 1 }; votes = at_next_counter votes votes.ballot }) d e (ap (λ b. if b then Some (with_timeout m) else None) live) is

pub change-no_counter : (h : ListenerState) (inputs : Inputs) (votes : Votes) (n : Node) (k : ℕ) → node_of h inputs votes ≡ n → is_ballot_timer_live k votes.armed (counter_in votes.ballot) (is_externalized votes.phase) ≡ false → change n (BallotTimer k) ≡ None
unfolding change
change-no_counter h inputs votes n k e dead = ap (λ m. change m (BallotTimer k)) (sym e) ∙ ap (λ b. if b then Some (with_timeout (node_of h inputs votes)) else None) dead

-- a ballot timer is live below the last counter alone
pub live-below : (k armed : ℕ) (o : Option Ballot) (over : Bool) → is_ballot_timer_live k armed (counter_in o) over ≡ true → counter_of o < 4294967295
live-below k armed None over h = omega arith
live-below k armed (Some b) over h =
    let p = and_parts (not over && (k == armed) && (b.counter == k)) (nat_lt k 4294967295) h in
    let same : b.counter ≡ k = eqb-true b.counter k (and_parts (not over && (k == armed)) (b.counter == k) p.0).1 in
    subst (λ (m : ℕ). m < 4294967295) (sym same) (under k p.1)
  where
    under : (m : ℕ) → nat_lt m 4294967295 ≡ true → m < 4294967295
    under m e = grind (arith, nat_tests)

-- ---- envelopes
pub change-put : (h k : ListenerState) (inputs : Inputs) (votes : Votes) (n : Node) (x : Sent) (p : Put) → node_of h inputs votes ≡ n → IsPut h.table x p k.table → k.configured ≡ h.configured → (p ≡ Added) ⊎ ((y : Filed) × (p ≡ Replaced y))
    → change n (Take x) ≡ Some (node_of k inputs votes)
unfolding change
change-put h k inputs votes n x p e put same is =
    let taken = put-takes h.table k.table x p put is in
    ap (λ m. change m (Take x)) (sym e)
    ∙ ap (λ b. if b then Some (node_from_parts h.configured inputs votes (with_row x (sents_of h.table))) else None) taken.0
    ∙ (λ i. Some (node_from_parts (sym same i) inputs votes (sym taken.1 i)))

-- two listeners with the same parts
heard-same : (h k : ListenerState) → k.configured ≡ h.configured → k.table ≡ h.table → k ≡ h
heard-same h k c t = λ i. record { configured = c i; table = t i }

-- a stale one leaves the node as it is
pub stale-put : (h k : ListenerState) (inputs : Inputs) (votes : Votes) (n : Node) (x : Sent) (p : Put) → node_of h inputs votes ≡ n → IsPut h.table x p k.table → k.configured ≡ h.configured → p ≡ Stale → step n (Take x) ≡ (node_of k inputs votes, [])
unfolding change
stale-put h k inputs votes n x p e put same is =
    let left = subst (λ (q : Put). IsPut h.table x q k.table) is put in
    let idle : change n (Take x) ≡ None = ap (λ m. change m (Take x)) (sym e) ∙ ap (λ b. if b then Some (node_from_parts h.configured inputs votes (with_row x (sents_of h.table))) else None) left.0 in
    step-is n (Take x) None idle ∙ ap {B = Node × List Out} (λ (m : Node). (m, [])) (sym e ∙ ap (λ (l : ListenerState). node_of l inputs votes) (sym (heard-same h k same left.1)))

-- ---- slices
-- the listener with new slices is that of the node with them
abbrev pub with_slices : ListenerState → Slices → ListenerState
with_slices h q = record h { configured = record h.configured { slices = q } }

pub change-slices : (h k : ListenerState) (inputs : Inputs) (votes : Votes) (n : Node) (q : Slices) → node_of h inputs votes ≡ n → k ≡ with_slices h q → change n (Reslice q) ≡ Some (node_of k inputs votes)
unfolding change
change-slices h k inputs votes n q e is = ap (λ m. change m (Reslice q)) (sym e) ∙ (λ i. Some (node_of (sym is i) inputs votes))

-- ---- inputs and votes
-- those that an event set, as the change of the node that they are of
abbrev pub change-of : (h : ListenerState) (inputs : Inputs) (votes : Votes) (n : Node) (event : NodeEvent) (o : Option Changed) (d : Changed) → node_of h inputs votes ≡ n → ComesOfEvents (node_of h inputs votes) → o ≡ Some d → ChangesTo n event o → IsBeforePasses (node_of h d.inputs d.votes)
change-of h inputs votes n event o d e reached is made = record {
  before = n;
  event = event;
  reached = subst ComesOfEvents e reached;
  is = made ∙ ap (option_map (with_changed n)) is ∙ ap (λ (m : Node). Some (with_changed m d)) (sym e);
}

-- none was set
pub step-none : (n : Node) (event : NodeEvent) (o : Option Changed) → o ≡ None → ChangesTo n event o → step n event ≡ (n, [])
step-none n event o is made = step-is n event None (made ∙ ap (option_map (with_changed n)) is)

-- ---- once the votes have settled
step-some : (m : Node) (d : IsBeforePasses m) (w : Votes) → settle most_passes (after_pass m) m.votes ≡ Some w → step d.before d.event ≡ node_and_outs d.before (Some (record m { votes = w }))
step-some m d w h = step-is d.before d.event (Some m) d.is ∙ ap (λ (o : Option Votes). node_and_outs d.before (with_settled_votes m o)) h

-- the node that is held then is the step's
pub node-after : (k : ListenerState) (inputs : Inputs) (votes : Votes) (d : IsBeforePasses (node_of k inputs votes)) (h : ListenerState) (u w : Votes) → settle most_passes (after_pass (node_of k inputs votes)) votes ≡ Some w → h ≡ k → u ≡ w → node_of h inputs u ≡ (step d.before d.event).0
node-after k inputs votes d h u w settled same set =
    let held : node_of h inputs u ≡ node_of k inputs w = λ i. node_of (same i) inputs (set i) in
    held ∙ sym (ap (λ (p : Node × List Out). p.0) (step-some (node_of k inputs votes) d w settled))

pub reached-after : (k : ListenerState) (inputs : Inputs) (votes : Votes) (d : IsBeforePasses (node_of k inputs votes)) (h : ListenerState) (u w : Votes) → settle most_passes (after_pass (node_of k inputs votes)) votes ≡ Some w → h ≡ k → u ≡ w → ComesOfEvents (node_of h inputs u)
reached-after k inputs votes d h u w settled same set = subst ComesOfEvents (sym (node-after k inputs votes d h u w settled same set)) (next d.reached d.event)

-- and what is given out is the step's: it does not depend on the slices and rows before the event
outs-by_new : (c d : Configured) (inputs : Inputs) (votes : Votes) (before table : List Sent) (new : Node) → outs (node_from_parts c inputs votes before) new ≡ outs (node_from_parts d inputs votes table) new
unfolding outs
outs-by_new c d inputs votes before table new = refl

pub outs-after : (k : ListenerState) (inputs : Inputs) (votes : Votes) (d : IsBeforePasses (node_of k inputs votes)) (h : ListenerState) (a : Inputs) (v w : Votes) (os : List Out) → settle most_passes (after_pass (node_of k inputs votes)) votes ≡ Some w → node_of h a v ≡ d.before
    → ((before after : List Sent) → os ≡ outs (node_from_parts k.configured a v before) (node_from_parts k.configured inputs w after)) → os ≡ (step d.before d.event).1
outs-after k inputs votes d h a v w os settled is given =
    given (sents_of k.table) (sents_of k.table)
    ∙ outs-by_new k.configured h.configured a v (sents_of k.table) (sents_of h.table) (node_of k inputs w)
    ∙ ap (λ (x : Node). outs x (node_of k inputs w)) is
    ∙ sym (ap (λ (p : Node × List Out). p.1) (step-some (node_of k inputs votes) d w settled))

-- ---- quiet
-- an envelope from outside of a set that holds the node's reach, and not from a leader
pub quiet-after : {E : Type 0} (n new : Node) (event : NodeEvent) (r : Result GivenOut E) → ComesOfEvents n → OnOk r (new ≡ (step n event).0) → IfOk r (λ v. v.outs.items ≡ (step n event).1)
    → (R : Names) (x : Sent) → event ≡ Take x → HoldsReach n.name n.slices n.table R → IsFalse (R x.sender) → IsFalse (among n.inputs.leaders x.sender) → IfOk r (λ v. IsQuiet R n new v.outs.items)
quiet-after n new event (Ok v) h node outs R x is held out no_leader =
    let q = outsiders_are_quiet R n x h held out no_leader in
    let same : new ≡ (step n (Take x)).0 = node ∙ ap (λ (e : NodeEvent). (step n e).0) is in
    let items : v.outs.items ≡ (step n (Take x)).1 = outs ∙ ap (λ (e : NodeEvent). (step n e).1) is in
    record {
      outs = items ∙ q.outs;
      inputs = ap (λ (m : Node). m.inputs) same ∙ q.inputs;
      votes = ap (λ (m : Node). m.votes) same ∙ q.votes;
      rows = λ u k i. ap (λ (m : Node). row m.table u k) same ∙ q.rows u k i;
    }
quiet-after n new event (Err e) h node outs R x is held out no_leader = tt
