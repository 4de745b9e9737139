-- Nodes that events lead to: calm, with no counter below the timers that have fired, and what they send is well formed.
-- The law `nodes_send_well_formed`, `Passes`, `Sending` and the crate `node_core` stand on it.
use Rattle.std.proofs.Common.{◌≡◌, ℕ, ◌+◌, ◌≤◌, Bool, true, false, not, ◌&&◌, ◌==◌, nat_lt, [], Option, Some, None, if◌then◌else◌, is_some, option_map, refl, subst, arith}
use Rattle.std.specs.Prelude.{IfSome}
use Rattle.std.proofs.lemmas.Bool.{and_parts, false≢true}
use Rattle.scp_types.specs.Trees.{Slices}
use Rattle.scp_types.specs.Statements.{IsWellFormed}
use Rattle.scp_types.specs.declared.ballot.Ballot.{Ballot}
use Rattle.scp_types.specs.declared.event.NodeEvent.{NodeEvent}
use Rattle.scp_types.specs.declared.event.NodeEvent.TheVariants.{Propose, Take, NominationTimer, BallotTimer, Reslice}
use Rattle.scp_spec.specs.Rows.{with_row, is_taken}
use Rattle.scp_spec.specs.Views.{seen}
use Rattle.scp_spec.specs.States.{counter_of, sent_vote, sent_nomination}
use Rattle.scp_spec.specs.Timers.{is_counter, most_counter}
use Rattle.scp_spec.specs.Nodes.{Node, fresh, change, step, at_next_counter, in_round, with_timeout, is_externalized, is_counter_live, Calm}
use Rattle.scp_spec.specs.Limits.{ComesOfEvents, NodesAreCalm, TimersAreCounted, SendsWellFormed}
use Rattle.scp_spec.specs.Limits.ComesOfEvents.{begin, next}
use Rattle.scp_spec.proofs.Nodes.Calm.{fresh-calm}
use Rattle.scp_spec.proofs.Nodes.Made.{if_node, if_node-if, step-keeps}
use Rattle.scp_spec.proofs.Nodes.Calm.{calm-step}
use Rattle.scp_types.specs.Nominations.{IsNominationSet}
use Rattle.scp_spec.proofs.Sending.Sendable.{IsSendable}
use Rattle.scp_spec.proofs.Sending.SendableCounters.{ballot_at_counter-keeps}
use Rattle.scp_spec.proofs.Sending.SendablePasses.{pass-keeps}
use Rattle.scp_spec.proofs.Sending.WellFormed.{nomination-sends, vote-sends}

-- ---- calm
pub calm-of-events : {n : Node} → ComesOfEvents n → Calm n
calm-of-events (begin slot v q) = fresh-calm slot v q
calm-of-events (next {n} r e) = calm-step n e (calm-of-events r)

-- ---- what is sent, and the timers
abbrev pub IsLawful : Node → Type 0
IsLawful n = IsSendable n.inputs.ballot_timeouts n.votes

fresh-lawful : (slot v : ℕ) (q : Slices) → IsLawful (fresh slot v q)
unfolding fresh
fresh-lawful slot v q = record { voted = none; accepts = none; timers = omega arith; counted = tt; placed = tt }
  where
    none : IsNominationSet []
    none = record { few = omega arith; ascending = tt }

timed_out-lawful : (n : Node) (o : Option Ballot) → n.votes.ballot ≡ o → is_some o ≡ true → IsLawful n
    → IsSendable (n.inputs.ballot_timeouts + 1) (at_next_counter n.votes o)
timed_out-lawful n None e s h = absurd (false≢true s)
timed_out-lawful n (Some b) e s h =
    ballot_at_counter-keeps n.inputs.ballot_timeouts (n.inputs.ballot_timeouts + 1) n.votes b (b.counter + 1) e
    (omega arith)
    (up n.inputs.ballot_timeouts b.counter (subst (λ o. n.inputs.ballot_timeouts ≤ counter_of o) e h.timers)) h
  where
    up : (m n : ℕ) → m ≤ n → m + 1 ≤ n + 1
    up m n k = omega (arith, k)

change-lawful : (n : Node) (e : NodeEvent) → IsLawful n → if_node IsLawful (change n e)
unfolding change
change-lawful n (Propose x) h = h
change-lawful n (Take e) h = if_node-if IsLawful (is_taken n.table e) (record n { table = with_row e n.table }) h
change-lawful n (NominationTimer r) h = if_node-if IsLawful _ (in_round n (r + 1)) h
change-lawful n (Reslice q) h = h
change-lawful n (BallotTimer c) h = go (is_counter_live n c) refl
  where
    counted : (o : Option Ballot) → is_counter (option_map (λ (b : Ballot). b.counter) o) c ≡ true → is_some o ≡ true
    counted None e = absurd (false≢true e)
    counted (Some b) e = refl

    has_ballot : is_counter_live n c ≡ true → is_some n.votes.ballot ≡ true
    has_ballot live =
        let of_ballot = is_counter (option_map (λ (b : Ballot). b.counter) n.votes.ballot) c in
        let p = and_parts (not (is_externalized n.votes.phase) && (c == n.votes.armed) && of_ballot)
        (nat_lt c most_counter) live in
        counted n.votes.ballot (and_parts (not (is_externalized n.votes.phase) && (c == n.votes.armed)) of_ballot p.0).1

    go : (b : Bool) → is_counter_live n c ≡ b → if_node IsLawful (if b then Some (with_timeout n) else None)
    go true live = timed_out-lawful n n.votes.ballot refl (has_ballot live) h
    go false live = tt

step-lawful : (n : Node) (e : NodeEvent) → IsLawful n → IsLawful (step n e).0
step-lawful n e h = step-keeps IsLawful (λ m. pass-keeps m.inputs.ballot_timeouts m.name
    (seen m.name m.slices m.inputs.leaders m.table) m.inputs m.votes) n e h (change-lawful n e h)

pub lawful-of-events : {n : Node} → ComesOfEvents n → IsLawful n
lawful-of-events (begin slot v q) = fresh-lawful slot v q
lawful-of-events (next {n} r e) = step-lawful n e (lawful-of-events r)

pub timeouts-of-events : {n : Node} → ComesOfEvents n → n.inputs.ballot_timeouts ≤ counter_of n.votes.ballot
timeouts-of-events r = (lawful-of-events r).timers

pub sends-of-events : {n : Node} → ComesOfEvents n
    → IfSome (sent_nomination n.votes) IsWellFormed × IfSome (sent_vote n.votes) IsWellFormed
sends-of-events {n} r =
    let h = lawful-of-events r in
    (nomination-sends n.inputs.ballot_timeouts n.votes h, vote-sends n.inputs.ballot_timeouts n.votes h)

-- ---- the laws
pub nodes_are_calm : NodesAreCalm
nodes_are_calm n r = calm-of-events r

pub timers_are_counted : TimersAreCounted
timers_are_counted n r = timeouts-of-events r

pub sends_well_formed : SendsWellFormed
sends_well_formed n r = sends-of-events r
