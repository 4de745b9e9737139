-- What votes send is well formed. `Nodes` stands on it.
use Rattle.std.proofs.Common.{◌≡◌, ℕ, ◌+◌, ◌-◌, ◌≤◌, ◌<◌, min, Bool, true, false, not, ◌&&◌, ◌||◌, nat_lt, nat_le, length, Option, Some, None, option_map, if◌then◌else◌, refl, ◌∙◌, ap, arith}
use Rattle.std.specs.Prelude.{IfSome}
use Rattle.std.specs.Ordering.{is_lt, is_gt, nat_cmp, ordering_reverse, ordering_then}
use Rattle.std.specs.declared.cmp.Ordering.{Ordering}
use Rattle.std.specs.declared.cmp.Ordering.TheVariants.{Less, Equal, Greater}
use Rattle.std.proofs.lemmas.Bool.{not-true, true≢false}
use Rattle.std.proofs.lemmas.Bool.Decides.{nat_tests}
use Rattle.scp_types.specs.declared.ballot.Ballot.{Ballot}
use Rattle.scp_types.specs.declared.statement.Statement.TheVariants.{Nominate}
use Rattle.scp_types.specs.declared.state.Phase.{Phase}
use Rattle.scp_types.specs.declared.state.Phase.TheVariants.{Preparing, Committing, Externalized}
use Rattle.scp_types.specs.declared.state.Votes.{Votes}
use Rattle.scp_types.specs.Orders.{bytes_cmp, ballot_cmp}
use Rattle.scp_types.specs.Statements.{IsUpTo, IsWellFormed}
use Rattle.scp_types.specs.Votes.{same_value}
use Rattle.scp_spec.specs.States.{below, ballot_with, counter_for, counter_up_to, high_counter, commit_counter, prepared_as_sent, sent_in, sent_vote, sent_nomination}
use Rattle.scp_spec.proofs.Ballots.Above.{Under}
use Rattle.scp_spec.proofs.Ballots.Order.{ballots_ordered, not_below-counter}
use Rattle.scp_spec.proofs.Sending.Sendable.{IsPlaced, IsSendable}
use Rattle.scp_spec.proofs.Sets.Numbers.{up_to}

-- ---- nominations
pub nomination-sends : (timeouts : ℕ) (w : Votes) → IsSendable timeouts w → IfSome (sent_nomination w) IsWellFormed
unfolding sent_nomination
nomination-sends timeouts w h = go (nat_lt 0 (length w.voted) || nat_lt 0 (length w.accepts)) refl
  where
    go : (b : Bool) → (nat_lt 0 (length w.voted) || nat_lt 0 (length w.accepts)) ≡ b
        → IfSome (if b then Some (Nominate w.voted w.accepts) else None) IsWellFormed
    go false e = tt
    go true e =
        record { voted_set = h.voted; accepted_set = h.accepts; some = some (length w.voted) (length w.accepts) e }
      where
        some : (m n : ℕ) → (nat_lt 0 m || nat_lt 0 n) ≡ true → 0 < m + n
        some m n e = grind (arith, nat_tests)

-- ---- ballots
-- what is not below is not above, the other way round
up-to : (a b : Ballot) → below b a ≡ false → IsUpTo a b
up-to a b h = ap is_gt (ballots_ordered.antisymm a b) ∙ turned (ballot_cmp b a) h
  where
    turned : (o : Ordering) → is_lt o ≡ false → is_gt (ordering_reverse o) ≡ false
    turned Less h = absurd (true≢false h)
    turned Equal h = refl
    turned Greater h = refl

prepared_as_sent-up-to : (b p : Ballot) → 1 ≤ b.counter → IsUpTo (prepared_as_sent b p) b
unfolding prepared_as_sent
prepared_as_sent-up-to b p c = go (below b p) refl
  where
    same_counter : (n : ℕ) (o : Ordering) → is_gt o ≡ false → is_gt (ordering_then (nat_cmp n n) o) ≡ false
    same_counter n o h = grind (arith, nat_tests)

    less_counter : (n : ℕ) (o : Ordering) → 1 ≤ n → is_gt (ordering_then (nat_cmp (n - 1) n) o) ≡ false
    less_counter n o h = grind (arith, nat_tests)

    at : (c : Bool) → not (is_gt (bytes_cmp p.value b.value)) ≡ c
        → IsUpTo (if c then ballot_with b.counter p.value else ballot_with (b.counter - 1) p.value) b
    at true e = same_counter b.counter (bytes_cmp p.value b.value) (not-true _ e)
    at false e = less_counter b.counter (bytes_cmp p.value b.value) c

    go : (d : Bool) → below b p ≡ d
        → IsUpTo (if d then (if not (is_gt (bytes_cmp p.value b.value)) then ballot_with b.counter p.value else ballot_with
        (b.counter - 1) p.value) else p) b
    go true e = at (not (is_gt (bytes_cmp p.value b.value))) refl
    go false e = up-to p b e

high-up-to : (b : Ballot) (confirmed_prepared : Option Ballot) → Under confirmed_prepared (Some b)
    → counter_for b confirmed_prepared ≤ b.counter
high-up-to b None h = omega arith
high-up-to b (Some x) h = go (same_value x.value b.value) (not_below-counter b x h)
  where
    go : (c : Bool) → x.counter ≤ b.counter → (if c then x.counter else 0) ≤ b.counter
    go true k = k
    go false k = omega arith

commit-up-to : (most : ℕ) (b : Ballot) (commit : Option Ballot) → counter_up_to most b commit ≤ most
commit-up-to most b None = omega arith
commit-up-to most b (Some c) = go (same_value c.value b.value) (nat_le c.counter most) refl
  where
    go : (v k : Bool) → nat_le c.counter most ≡ k → (if v && k then c.counter else 0) ≤ most
    go true true e = up_to c.counter most e
    go true false e = omega arith
    go false k e = omega arith

vote-sends-in : (w : Votes) (b : Ballot) (p : Phase) → 1 ≤ b.counter
    → IsPlaced p (Some b) w.confirmed_prepared w.low w.high
    → IsWellFormed (sent_in p w b)
unfolding sent_in high_counter commit_counter
vote-sends-in w b Preparing c h = record {
  counted = c;
  prepared_below = each w.prepared;
  aborted_below = least w.aborted b.counter;
  ordered = commit-up-to (high_counter w b) b w.commit;
  high_below = high-up-to b w.confirmed_prepared h;
}
  where
    each : (o : Option Ballot) → IfSome (option_map (prepared_as_sent b) o) (λ p. IsUpTo p b)
    each None = tt
    each (Some p) = prepared_as_sent-up-to b p c

    least : (a n : ℕ) → min a n ≤ n
    least a n = omega arith
vote-sends-in w b Committing c h = record { counted = h.0; ordered = h.1.0; high_below = h.1.1 }
vote-sends-in w b Externalized c h = record { counted = h.0; ordered = h.1 }

pub vote-sends : (timeouts : ℕ) (w : Votes) → IsSendable timeouts w → IfSome (sent_vote w) IsWellFormed
unfolding sent_vote
vote-sends timeouts w h = go w.ballot h.counted h.placed
  where
    go : (o : Option Ballot) → IfSome o (λ b. 1 ≤ b.counter) → IsPlaced w.phase o w.confirmed_prepared w.low w.high
        → IfSome (option_map (sent_in w.phase w) o) IsWellFormed
    go None c k = tt
    go (Some b) c k = vote-sends-in w b w.phase c k
