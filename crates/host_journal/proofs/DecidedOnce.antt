-- An event decides one value at most.
use Rattle.std.proofs.Common.{length-append, suc, ◌≡◌, ℕ, ◌≤◌, ◌==◌, ◌&&◌, not, is_none, Bool, true, false, List, [], ◌∷◌, ◌++◌, length, take, slice_get, option_to_list, if◌then◌else◌, Option, Some, None, refl, sym, ap, ◌∙◌, subst, arith}
use Rattle.scp_types.specs.declared.ballot.Ballot.{Ballot}
use Rattle.scp_types.specs.declared.statement.Statement.{Statement}
use Rattle.scp_types.specs.declared.event.NodeEvent.{NodeEvent}
use Rattle.scp_types.specs.declared.event.NodeEvent.TheVariants.{Propose, Take, NominationTimer, BallotTimer, Reslice}
use Rattle.scp_types.specs.declared.event.Out.{Out}
use Rattle.scp_types.specs.declared.event.Out.TheVariants.{ArmNomination, ArmBallot, Emit, Externalized}
use Rattle.scp_types.specs.Statements.{Sent}
use Rattle.scp_spec.specs.Hosts.{Config, Entry}
use Rattle.scp_spec.specs.Networks.{Net, Instance, Step, act, act_known, effect, emission, node_where_open, outs_at, instances_at}
use Rattle.scp_spec.specs.Networks.Reading.{Read, Fault}
use Rattle.scp_spec.specs.Networks.Step.{Opens, Closes, Proposes, Delivers, Hears, NominationTimerFires, BallotTimerFires, Reslices}
use Rattle.scp_spec.specs.Nodes.{Node, after_change, node_and_outs, change, externalization, emission_between, is_externalized, outs, step, when}
use Rattle.scp_spec.specs.Runs.{IsRun, state_of}
use Rattle.scp_spec.specs.Sameness.{same_sent}
use Rattle.scp_spec.specs.States.{counter_of, sent_nomination, sent_vote}
use Rattle.host_network.specs.Marks.{slot_and_node_of}
use Rattle.host_journal.specs.Deciding.{decided_at, decisions_by, decisions_in, externalized_values}

abbrev AtMostOne : List Out → Type 0
AtMostOne os = length (externalized_values os) ≤ 1

none-there : 0 ≤ 1
none-there = omega (arith)

one-there : 1 ≤ 1
one-there = omega (arith)

pub values-append : (xs ys : List Out) → externalized_values (xs ++ ys) ≡ externalized_values xs ++ externalized_values ys
values-append [] ys = refl
values-append (ArmNomination r ∷ xs) ys = values-append xs ys
values-append (ArmBallot n ∷ xs) ys = values-append xs ys
values-append (Emit e ∷ xs) ys = values-append xs ys
values-append (Externalized x ∷ xs) ys = ap (λ (vs : List (List ℕ)). x ∷ vs) (values-append xs ys)

-- behind what decides nothing
after-none : (xs ys : List Out) → externalized_values xs ≡ [] → externalized_values (xs ++ ys) ≡ externalized_values ys
after-none xs ys h = values-append xs ys ∙ ap (λ (vs : List (List ℕ)). vs ++ externalized_values ys) h

round-timer : (b : Bool) (r : ℕ) → externalized_values (when b (ArmNomination r)) ≡ []
round-timer true r = refl
round-timer false r = refl

ballot-timer : (b : Bool) (n : ℕ) → externalized_values (when b (ArmBallot n)) ≡ []
ballot-timer true n = refl
ballot-timer false n = refl

pub no-values-emitted : (n : Node) (old new : Option Statement) → externalized_values (emission_between n old new) ≡ []
no-values-emitted n old None = refl
no-values-emitted n old (Some s) = go (same_sent old (Some s))
  where
    go : (b : Bool) → externalized_values (if b then [] else Emit (record { sender = n.name; slot = n.slot; slices = n.slices; body = s }) ∷ []) ≡ []
    go true = refl
    go false = refl

value : (b : Bool) (x : Option Ballot) → AtMostOne (if b then externalization x else [])
value true None = none-there
value true (Some x) = one-there
value false x = none-there

after-sent : (a b c d e : List Out) → externalized_values a ≡ [] → externalized_values b ≡ [] → externalized_values c ≡ [] → externalized_values d ≡ [] → AtMostOne e → AtMostOne (a ++ b ++ c ++ d ++ e)
after-sent a b c d e ha hb hc hd he =
    subst (λ (vs : List (List ℕ)). length vs ≤ 1)
    (sym (after-none (a ++ b ++ c ++ d) e (after-none (a ++ b ++ c) d (after-none (a ++ b) c (after-none a b ha ∙ hb) ∙ hc) ∙ hd))) he

by-node : (old : Node) (new : Option Node) → AtMostOne (node_and_outs old new).1
unfolding outs
by-node old None = none-there
by-node old (Some new) =
    let is_armed = not (new.votes.armed == old.votes.armed) && (new.votes.armed == counter_of new.votes.ballot) && not (is_externalized new.votes.phase) in
    let is_round = not (new.inputs.round == old.inputs.round) && is_none new.votes.confirmed_prepared in
    let is_now = is_externalized new.votes.phase && not (is_externalized old.votes.phase) in
    after-sent (when is_round (ArmNomination new.inputs.round)) (when is_armed (ArmBallot new.votes.armed))
    (emission_between new (sent_nomination old.votes) (sent_nomination new.votes)) (emission_between new (sent_vote old.votes) (sent_vote new.votes))
    (if is_now then externalization new.votes.ballot else [])
    (round-timer is_round new.inputs.round) (ballot-timer is_armed new.votes.armed)
    (no-values-emitted new (sent_nomination old.votes) (sent_nomination new.votes)) (no-values-emitted new (sent_vote old.votes) (sent_vote new.votes))
    (value is_now new.votes.ballot)

at-place : (e : NodeEvent) (p : Option Instance) → AtMostOne (outs_at e p)
unfolding step
at-place e None = none-there
at-place e (Some p) = by-node p.node (after_change (change p.node e))

by-act : (net : Net) (i u : ℕ) (e : NodeEvent) → AtMostOne (act net i u e).1
unfolding act
by-act net i u e = at-place e (node_where_open (instances_at net.slots i) u)

by-hearing : (net : Net) (i u : ℕ) (e : Option Sent) → AtMostOne (act_known net i u e).1
by-hearing net i u None = none-there
by-hearing net i u (Some e) = by-act net i u (Take e)

by-event : (net : Net) (e : Step) → AtMostOne (effect net e).1
unfolding effect
by-event net (Opens i) = none-there
by-event net (Closes i) = none-there
by-event net (Proposes i u x) = by-act net i u (Propose x)
by-event net (Delivers u size (Read e)) = by-act net e.slot u (Take e)
by-event net (Delivers u size (Fault n)) = none-there
by-event net (Hears i u from kind k) = by-hearing net i u (emission (node_where_open (instances_at net.slots i) from) kind k)
by-event net (NominationTimerFires i u r) = by-act net i u (NominationTimer r)
by-event net (BallotTimerFires i u n) = by-act net i u (BallotTimer n)
by-event net (Reslices i u q) = by-act net i u (Reslice q)

-- of an entry in a run
pub decided-once : (config : Config) (entries : List Entry) (k : ℕ) (x : Entry) → IsRun config entries → slice_get entries k ≡ Some x → length (externalized_values x.outs) ≤ 1
decided-once config entries k x run at = subst (λ (os : List Out). length (externalized_values os) ≤ 1) (sym (run.outs k x at)) (by-event (state_of config (take k entries)) x.event)

-- the first of one value at most is all of them
pub first-is-all : (xs : List (List ℕ)) (o : Option (List ℕ)) → o ≡ slice_get xs 0 → length xs ≤ 1 → option_to_list o ≡ xs
first-is-all [] o is few = ap option_to_list is
first-is-all (x ∷ []) o is few = ap option_to_list is
first-is-all (x ∷ y ∷ zs) o is few = absurd (omega (arith, few))

-- so no more is decided than there are entries
by-place : (at : Option (ℕ × ℕ)) (xs : List (List ℕ)) → length xs ≤ 1 → length (decided_at at xs) ≤ 1
by-place None xs few = none-there
by-place (Some at) [] few = none-there
by-place (Some at) (x ∷ []) few = one-there
by-place (Some at) (x ∷ y ∷ zs) few = absurd (omega (arith, few))

few-each : (entries : List Entry) → ((k : ℕ) (x : Entry) → slice_get entries k ≡ Some x → length (externalized_values x.outs) ≤ 1) → length (decisions_by entries) ≤ length entries
few-each [] each = omega (arith)
few-each (x ∷ xs) each =
    let rest = few-each xs (λ k y at. each (suc k) y at) in
    let mine = by-place (slot_and_node_of x.event) (externalized_values x.outs) (each 0 x refl) in
    let both = length-append (decisions_in x) (decisions_by xs) in
    omega (arith, rest, mine, both)

pub decisions-few : (config : Config) (entries : List Entry) → IsRun config entries → length (decisions_by entries) ≤ length entries
decisions-few config entries run = few-each entries (λ k x at. decided-once config entries k x run at)
