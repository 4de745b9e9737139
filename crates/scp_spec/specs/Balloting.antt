-- Balloting: the rules by which a ballot is begun, prepared, committed and externalized.
use Rattle.std.specs.Prelude.{ℕ, ◌+◌, max, Bool, true, false, not, ◌&&◌, ◌||◌, ◌==◌, nat_lt, List, [], ◌∷◌, Option, Some, None, filter, if◌then◌else◌}
use Rattle.std.specs.Ordering.{is_lt}
use Rattle.scp_types.specs.declared.kind.Kind.{Kind}
use Rattle.scp_types.specs.declared.ballot.Ballot.{Ballot}
use Rattle.scp_types.specs.declared.statement.Statement.{Statement}
use Rattle.scp_types.specs.Orders.{bytes_cmp}
use Rattle.scp_types.specs.Votes.{same_value, accepts_prepare, votes_or_accepts_prepare, accepts_ends, votes_or_accepts_ends}
use Rattle.scp_spec.specs.Views.{Seen, accepted, confirmed}
use Rattle.scp_types.specs.declared.state.Phase.TheVariants.{Preparing, Committing, Externalized}
use Rattle.scp_types.specs.declared.state.Phase.{Phase}
use Rattle.scp_types.specs.declared.state.Votes.{Votes}
use Rattle.scp_spec.specs.States.{below, ballot_with, high_counter, position}
use Rattle.scp_spec.specs.Candidates.{named_ballots, commits, greatest, lowest, combine}

-- ---- the federated tests of ballots, by a node in this position
-- prepare of the ballot is accepted
abbrev pub prepare_accepted : Seen → Option Statement → Ballot → Bool
prepare_accepted seen own t =
    accepted seen Kind.Ballot own (λ s. votes_or_accepts_prepare s t) (λ s. accepts_prepare s t)

-- prepare of the ballot is confirmed
abbrev pub prepare_confirmed : Seen → Option Statement → Ballot → Bool
prepare_confirmed seen own t = confirmed seen Kind.Ballot own (λ s. accepts_prepare s t)

-- commit of the value on the whole interval is accepted
abbrev pub interval_accepted : Seen → Option Statement → List ℕ → ℕ → ℕ → Bool
interval_accepted seen own x low high =
    accepted seen Kind.Ballot own (λ s. votes_or_accepts_ends s x low high) (λ s. accepts_ends s x low high)

-- commit of the value on the whole interval is confirmed
abbrev pub interval_confirmed : Seen → Option Statement → List ℕ → ℕ → ℕ → Bool
interval_confirmed seen own x low high = confirmed seen Kind.Ballot own (λ s. accepts_ends s x low high)

-- ---- the federated tests of ballots, by a node with these votes
-- prepare of the ballot is accepted
abbrev pub is_accepted : Seen → Votes → Ballot → Bool
is_accepted seen w t = prepare_accepted seen (position w) t

-- prepare of the ballot is confirmed
abbrev pub is_confirmed : Seen → Votes → Ballot → Bool
is_confirmed seen w t = prepare_confirmed seen (position w) t

-- commit of the value on the whole interval is accepted
abbrev pub commit_accepted : Seen → Votes → List ℕ → ℕ → ℕ → Bool
commit_accepted seen w x low high = interval_accepted seen (position w) x low high

-- commit of the value on the whole interval is confirmed
abbrev pub commit_confirmed : Seen → Votes → List ℕ → ℕ → ℕ → Bool
commit_confirmed seen w x low high = interval_confirmed seen (position w) x low high

-- ---- the first ballot
-- Start, without a ballot: counter 1 with the combined confirmed value. If no value is confirmed, it is the greatest
-- named ballot whose prepare is accepted, if there is one.
unfoldable pub with_first_ballot : Seen → Votes → Option (List ℕ) → Votes
with_first_ballot seen w (Some x) = record w { ballot = Some (ballot_with 1 x) }
with_first_ballot seen w None = record w { ballot = greatest None (filter (is_accepted seen w) (named_ballots seen w)) }

-- a ballot that is there stays; if there is none, the first one is set
abbrev pub start_from : Seen → Votes → Option Ballot → Votes
start_from seen w (Some b) = w
start_from seen w None = with_first_ballot seen w (combine w.confirms)

-- the first ballot is set if there is none
unfoldable pub start : Seen → Votes → Votes
start seen w = start_from seen w w.ballot

-- ---- accepted as prepared
-- The aborted counter: ballots with lower counters are aborted. It changes only if the highest accepted ballot goes
-- from one value to another. Then it is at least the old ballot's counter, or one more if the old value is the greater.
unfoldable pub aborted_by : Option Ballot → Option Ballot → ℕ → ℕ
aborted_by None new a = a
aborted_by (Some o) None a = a
aborted_by (Some o) (Some p) a =
    if same_value o.value p.value then a else max a
    (if is_lt (bytes_cmp o.value p.value) then o.counter else o.counter + 1)

-- which ballots may be accepted as prepared: in COMMIT only those of the ballot's value, in the other phases all
abbrev pub may_be_prepared : Phase → List ℕ → Ballot → Bool
may_be_prepared Committing x t = same_value t.value x
may_be_prepared Preparing x t = true
may_be_prepared Externalized x t = true

-- Accept prepared: the greatest of the highest accepted ballot and the named ballots whose prepare is accepted. In
-- COMMIT only named ballots of the ballot's value count. The aborted counter follows.
unfoldable pub accept_prepared : Seen → Ballot → Votes → Votes
accept_prepared seen b w =
    let p = greatest w.prepared
    (filter (λ t. may_be_prepared w.phase b.value t && is_accepted seen w t) (named_ballots seen w)) in
    record w { prepared = p; aborted = aborted_by w.prepared p w.aborted }

-- ---- confirmed as prepared, in PREPARE
-- the greatest of the highest confirmed ballot and the named ballots whose prepare is confirmed
unfoldable pub raise_confirmed_prepared : Seen → Votes → Votes
raise_confirmed_prepared seen w =
    record w {
      confirmed_prepared = greatest w.confirmed_prepared (filter (is_confirmed seen w) (named_ballots seen w));
    }

-- the ballot is never below the highest confirmed one
abbrev pub at_least : Option Ballot → Ballot → Ballot
at_least None b = b
at_least (Some h) b = if below b h then h else b

-- the ballot becomes the highest confirmed one if that is above it
unfoldable pub follow_confirmed_prepared : Ballot → Votes → Votes
follow_confirmed_prepared b w = record w { ballot = Some (at_least w.confirmed_prepared b) }

-- the highest accepted ballot is above this one and of another value
abbrev pub is_overtaken : Option Ballot → Ballot → Bool
is_overtaken None t = false
is_overtaken (Some p) t = below t p && not (same_value p.value t.value)

-- a ballot is aborted: overtaken, or its counter below the aborted one
unfoldable pub is_aborted : Votes → Ballot → Bool
is_aborted w t = is_overtaken w.prepared t || nat_lt t.counter w.aborted

-- the ballot whose commit is voted for is reset if it is aborted
abbrev pub unless_aborted : Votes → Option Ballot → Option Ballot
unless_aborted w None = None
unless_aborted w (Some c) = if is_aborted w c then None else Some c

-- The ballot whose commit is voted for. If there is none, it is the ballot, once that is confirmed as prepared at its
-- counter and not aborted.
abbrev pub or_confirmed_ballot : Votes → Option Ballot → Option Ballot → Option Ballot
or_confirmed_ballot w None c = c
or_confirmed_ballot w (Some b) None = if (high_counter w b == b.counter) && not (is_aborted w b) then Some b else None
or_confirmed_ballot w (Some b) (Some c) = Some c

-- the ballot whose commit is voted for is reset, and then set
unfoldable pub set_commit : Votes → Votes
set_commit w = record w { commit = or_confirmed_ballot w w.ballot (unless_aborted w w.commit) }

-- Confirm prepared: the highest confirmed ballot, the ballot, and the ballot whose commit is voted for, in this order.
unfoldable pub confirm_prepared : Seen → Ballot → Votes → Votes
confirm_prepared seen b w = set_commit (follow_confirmed_prepared b (raise_confirmed_prepared seen w))

-- ---- accepted as committed
-- the least commit counter of the value from which on the interval up to this ballot's counter is accepted
unfoldable pub accepted_from : Seen → Votes → Ballot → ℕ
accepted_from seen w t = lowest (λ low. commit_accepted seen w t.value low t.counter) t.value t.counter (commits seen w)

-- in PREPARE: the greatest counter, over all values, that is accepted as committed, confirmed as prepared and not
-- aborted
unfoldable pub first_committed : Seen → Votes → Option Ballot
first_committed seen w =
    greatest None
    (filter (λ t. commit_accepted seen w t.value t.counter t.counter && is_confirmed seen w t && not (is_aborted w t))
    (commits seen w))

-- in COMMIT: the greatest counter of the ballot's value above the high end that is accepted as committed
unfoldable pub next_committed : Seen → Ballot → Votes → Option Ballot
next_committed seen b w =
    greatest None
    (filter (λ t. same_value t.value b.value && nat_lt w.high t.counter
    && commit_accepted seen w t.value t.counter t.counter) (commits seen w))

-- the phase becomes COMMIT, with the interval, and nothing stays below its end
unfoldable pub enter_commit : Seen → Ballot → Votes → Option Ballot → Votes
enter_commit seen b w None = w
enter_commit seen b w (Some t) = record w {
  phase = Committing;
  ballot = Some (ballot_with (max b.counter t.counter) t.value);
  prepared = greatest w.prepared (t ∷ []);
  confirmed_prepared = greatest w.confirmed_prepared (t ∷ []);
  low = accepted_from seen w t;
  high = t.counter;
}

-- in COMMIT a greater end moves the interval, the ballot's counter and the highest accepted ballot
unfoldable pub widen_commit : Seen → Ballot → Votes → Option Ballot → Votes
widen_commit seen b w None = w
widen_commit seen b w (Some t) = record w {
  ballot = Some (ballot_with (max b.counter t.counter) t.value);
  prepared = greatest w.prepared (t ∷ []);
  low = accepted_from seen w t;
  high = t.counter;
}

-- Accept commit, by the phase in which the rule begins.
unfoldable pub accept_commit : Phase → Seen → Ballot → Votes → Votes
accept_commit Preparing seen b w = enter_commit seen b w (first_committed seen w)
accept_commit Committing seen b w = widen_commit seen b w (next_committed seen b w)
accept_commit Externalized seen b w = w

-- ---- confirmed as committed
-- the greatest commit counter of the ballot's value that is confirmed as committed
unfoldable pub confirmed_commit : Seen → Ballot → Votes → Option Ballot
confirmed_commit seen b w =
    greatest None
    (filter (λ t. same_value t.value b.value && commit_confirmed seen w t.value t.counter t.counter) (commits seen w))

-- the phase becomes EXTERNALIZE, with the confirmed interval
unfoldable pub externalize : Seen → Votes → Option Ballot → Votes
externalize seen w None = w
externalize seen w (Some t) = record w {
  phase = Externalized;
  low = lowest (λ low. commit_confirmed seen w t.value low t.counter) t.value t.counter (commits seen w);
  high = t.counter;
}

-- Confirm commit, in COMMIT.
unfoldable pub confirm_commit : Phase → Seen → Ballot → Votes → Votes
confirm_commit Preparing seen b w = w
confirm_commit Committing seen b w = externalize seen w (confirmed_commit seen b w)
confirm_commit Externalized seen b w = w
