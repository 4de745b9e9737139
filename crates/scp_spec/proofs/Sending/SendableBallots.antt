-- Each rule of balloting keeps a ballot, with its interval, that a statement may have. `SendablePasses` stands on it.
use Rattle.std.proofs.Common.{◌≡◌, ℕ, ◌≤◌, max, Bool, true, false, not, ◌&&◌, nat_lt, List, Option, Some, None, if◌then◌else◌, filter, is_none, refl, sym, subst, inl, inr, arith}
use Rattle.std.specs.Prelude.{IfSome}
use Rattle.std.proofs.lemmas.Bool.{cases_Bool, true≢false}
use Rattle.std.proofs.lemmas.Bool.Decides.{nat_tests}
use Rattle.scp_types.specs.declared.ballot.Ballot.{Ballot}
use Rattle.scp_types.specs.declared.state.Phase.{Phase}
use Rattle.scp_types.specs.declared.state.Phase.TheVariants.{Preparing, Committing, Externalized}
use Rattle.scp_types.specs.declared.state.Inputs.{Inputs}
use Rattle.scp_types.specs.declared.state.Votes.{Votes}
use Rattle.scp_types.specs.Votes.{same_value}
use Rattle.scp_spec.specs.Views.{Seen}
use Rattle.scp_spec.specs.States.{below, ballot_with, counter_of}
use Rattle.scp_spec.specs.Candidates.{combine, commits, greatest, lowest, named_ballots}
use Rattle.scp_spec.specs.Nominating.{nominate}
use Rattle.scp_spec.specs.Balloting.{with_first_ballot, start, accept_prepared, at_least, raise_confirmed_prepared, follow_confirmed_prepared, set_commit, confirm_prepared, is_accepted, is_confirmed, is_aborted, commit_accepted, commit_confirmed, accepted_from, first_committed, next_committed, enter_commit, widen_commit, accept_commit, confirmed_commit, externalize, confirm_commit}
use Rattle.scp_spec.specs.Extremes.{IsIn}
use Rattle.scp_spec.proofs.Ballots.Above.{Under, greatest-of, lowest-low}
use Rattle.scp_spec.proofs.Ballots.Order.{below-self, below-counter}
use Rattle.scp_spec.proofs.Ballots.LeastCounters.{lowest_is_exact}
use Rattle.scp_spec.proofs.Nominating.Sets.{nominate-is, nominate-not}
use Rattle.scp_spec.proofs.Passes.Ends.{start-some}
use Rattle.scp_spec.proofs.Balloting.Named.{named-parts, commits-parts}
use Rattle.scp_spec.proofs.Sending.Sendable.{IsPlaced, IsSendable}
use Rattle.scp_spec.proofs.Sending.SendableSets.{with_up_to_sixteen-set, voted-set}
use Rattle.scp_spec.proofs.Sets.Numbers.{through}

most : (a b c : ℕ) → a ≤ b → a ≤ max b c
most a b c h = omega (arith, h)

other : (a b c : ℕ) → a ≤ c → a ≤ max b c
other a b c h = omega (arith, h)

from_one : (n : ℕ) → nat_lt 0 n ≡ true → 1 ≤ n
from_one n k = grind (arith, nat_tests)

module _ (timeouts : ℕ) where
  pub nominate-keeps : (v : ℕ) (s : Seen) (g : Inputs) (w : Votes) → IsSendable timeouts w
      → IsSendable timeouts (nominate v s g w)
  nominate-keeps v s g w h = elim (cases_Bool (is_none w.confirmed_prepared)) [
    | inl e ↦ subst (IsSendable timeouts) (sym (nominate-is v s g w e)) (record {
      voted = voted-set v s g w.voted w.confirms h.voted;
      accepts = with_up_to_sixteen-set w.accepts _ h.accepts;
      timers = h.timers;
      counted = h.counted;
      placed = h.placed;
    })
    | inr e ↦ subst (IsSendable timeouts) (sym (nominate-not v s g w e)) h
  ]

  -- ---- the first ballot
  first-placed : (p : Phase) (confirmed_prepared first : Option Ballot) (low high : ℕ)
      → IsPlaced p None confirmed_prepared low high
      → IsPlaced p first confirmed_prepared low high
  first-placed Preparing None first low high h = tt
  first-placed Preparing (Some x) first low high h = absurd (true≢false h)
  first-placed Committing confirmed_prepared first low high h = over low high (counter_of first) h.0 h.1.0 h.1.1
    where
      over : (low high n : ℕ) → 1 ≤ low → low ≤ high → high ≤ 0 → (1 ≤ low) × ((low ≤ high) × (high ≤ n))
      over low high n a b c = absurd (omega (arith, a, b, c))
  first-placed Externalized confirmed_prepared first low high h = h

  first-keeps : (w : Votes) (first : Option Ballot) → w.ballot ≡ None → IfSome first (λ b. 1 ≤ b.counter)
      → IsSendable timeouts w → IsSendable timeouts (record w { ballot = first })
  first-keeps w first e c h = record {
    voted = h.voted;
    accepts = h.accepts;
    timers = none (counter_of first) (subst (λ o. timeouts ≤ counter_of o) e h.timers);
    counted = c;
    placed = first-placed w.phase w.confirmed_prepared first w.low w.high
        (subst (λ o. IsPlaced w.phase o w.confirmed_prepared w.low w.high) e h.placed);
  }
    where
      none : (n : ℕ) → timeouts ≤ 0 → timeouts ≤ n
      none n k = omega (arith, k)

  counted-named : (s : Seen) (w : Votes) (test : Ballot → Bool) (o : Option Ballot)
      → greatest None (filter test (named_ballots s w)) ≡ o → IfSome o (λ b. 1 ≤ b.counter)
  counted-named s w test None e = tt
  counted-named s w test (Some t) e =
      from_one t.counter (named-parts s w t (greatest-of test (named_ballots s w) t e).0).0

  pub start-keeps : (s : Seen) (w : Votes) → IsSendable timeouts w → IsSendable timeouts (start s w)
  unfolding start with_first_ballot
  start-keeps s w h = go w.ballot (combine w.confirms) refl refl
    where
      go : (o : Option Ballot) (z : Option (List ℕ)) → w.ballot ≡ o → combine w.confirms ≡ z
          → IsSendable timeouts (start s w)
      go (Some b) z e k = subst (IsSendable timeouts) (sym (start-some s w b e)) h
      go None (Some x) e k =
          let is : start s w ≡ record w { ballot = Some (ballot_with 1 x) } = rw (e, k) refl in
          subst (IsSendable timeouts) (sym is) (first-keeps w (Some (ballot_with 1 x)) e (omega arith) h)
      go None None e k =
          let first = greatest None (filter (is_accepted s w) (named_ballots s w)) in
          let is : start s w ≡ record w { ballot = first } = rw (e, k) refl in
          subst (IsSendable timeouts) (sym is)
          (first-keeps w first e (counted-named s w (is_accepted s w) first refl) h)

  -- ---- prepared
  pub prepared-keeps : (s : Seen) (b : Ballot) (w : Votes) → IsSendable timeouts w
      → IsSendable timeouts (accept_prepared s b w)
  unfolding accept_prepared
  prepared-keeps s b w h =
      record { voted = h.voted; accepts = h.accepts; timers = h.timers; counted = h.counted; placed = h.placed }

  followed : (confirmed_prepared : Option Ballot) (b : Ballot)
      → (b.counter ≤ (at_least confirmed_prepared b).counter)
      × Under confirmed_prepared (Some (at_least confirmed_prepared b))
  followed None b = (omega arith, tt)
  followed (Some h) b = go (below b h) refl
    where
      go : (c : Bool) → below b h ≡ c
          → (b.counter ≤ (if c then h else b).counter) × (below (if c then h else b) h ≡ false)
      go true e = (below-counter b h e, below-self h)
      go false e = (omega arith, e)

  pub confirmed-keeps : (s : Seen) (b : Ballot) (w : Votes) → w.phase ≡ Preparing → w.ballot ≡ Some b
      → IsSendable timeouts w → IsSendable timeouts (confirm_prepared s b w)
  unfolding confirm_prepared set_commit follow_confirmed_prepared raise_confirmed_prepared
  confirmed-keeps s b w p e h =
      let confirmed_prepared = greatest w.confirmed_prepared (filter (is_confirmed s w) (named_ballots s w)) in
      let f = followed confirmed_prepared b in
      let n = at_least confirmed_prepared b in
      record {
        voted = h.voted;
        accepts = h.accepts;
        timers = through timeouts b.counter n.counter (subst (λ o. timeouts ≤ counter_of o) e h.timers) f.0;
        counted = through 1 b.counter n.counter (subst (λ o. IfSome o (λ b. 1 ≤ b.counter)) e h.counted) f.0;
        placed = subst (λ p. IsPlaced p (Some n) confirmed_prepared w.low w.high) (sym p) f.1;
      }

  -- ---- committed
  interval : (test : ℕ → Bool) (s : Seen) (w : Votes) (t : Ballot) → IsIn t (commits s w)
      → (1 ≤ t.counter)
      × ((1 ≤ lowest test t.value t.counter (commits s w)) × (lowest test t.value t.counter (commits s w) ≤ t.counter))
  interval test s w t i =
      let low = lowest test t.value t.counter (commits s w) in
      let c = from_one t.counter (commits-parts s w t i).0 in (
        c,
        (
          elim (lowest_is_exact test t.value t.counter (commits s w)).from [
            | inl e ↦ subst (λ n. 1 ≤ n) (sym e) c
            | inr r ↦ subst (λ n. 1 ≤ n) r.1.1.1.1 (from_one r.0.counter (commits-parts s w r.0 r.1.0).0)
          ],
          lowest-low test t.value t.counter (commits s w),
        ),
      )

  pub accept-keeps : (p : Phase) (s : Seen) (b : Ballot) (w : Votes) → w.phase ≡ p → w.ballot ≡ Some b
      → IsSendable timeouts w → IsSendable timeouts (accept_commit p s b w)
  unfolding accept_commit enter_commit widen_commit accepted_from first_committed next_committed
  accept-keeps Preparing s b w p e h = go (first_committed s w) refl
    where
      go : (o : Option Ballot) → first_committed s w ≡ o → IsSendable timeouts (enter_commit s b w o)
      go None k = h
      go (Some t) k =
          let r = interval (λ low. commit_accepted s w t.value low t.counter) s w t
          (greatest-of (λ t. commit_accepted s w t.value t.counter t.counter && is_confirmed s w t
          && not (is_aborted w t)) (commits s w) t k).0 in
          record {
            voted = h.voted;
            accepts = h.accepts;
            timers = most timeouts b.counter t.counter (subst (λ o. timeouts ≤ counter_of o) e h.timers);
            counted = other 1 b.counter t.counter r.0;
            placed = (r.1.0, (r.1.1, other t.counter b.counter t.counter (omega arith)));
          }
  accept-keeps Committing s b w p e h = go (next_committed s b w) refl
    where
      go : (o : Option Ballot) → next_committed s b w ≡ o → IsSendable timeouts (widen_commit s b w o)
      go None k = h
      go (Some t) k =
          let r = interval (λ low. commit_accepted s w t.value low t.counter) s w t
          (greatest-of (λ t. same_value t.value b.value && nat_lt w.high t.counter
          && commit_accepted s w t.value t.counter t.counter) (commits s w) t k).0 in
          let n = ballot_with (max b.counter t.counter) t.value in
          let low = lowest (λ low. commit_accepted s w t.value low t.counter) t.value t.counter (commits s w) in
          let placed : IsPlaced Committing (Some n) w.confirmed_prepared low t.counter =
          (r.1.0, (r.1.1, other t.counter b.counter t.counter (omega arith))) in
          record {
            voted = h.voted;
            accepts = h.accepts;
            timers = most timeouts b.counter t.counter (subst (λ o. timeouts ≤ counter_of o) e h.timers);
            counted = other 1 b.counter t.counter r.0;
            placed = subst (λ q. IsPlaced q (Some n) w.confirmed_prepared low t.counter) (sym p) placed;
          }
  accept-keeps Externalized s b w p e h = h

  pub confirm-keeps : (p : Phase) (s : Seen) (b : Ballot) (w : Votes) → IsSendable timeouts w
      → IsSendable timeouts (confirm_commit p s b w)
  unfolding confirm_commit confirmed_commit externalize
  confirm-keeps Preparing s b w h = h
  confirm-keeps Committing s b w h = go (confirmed_commit s b w) refl
    where
      go : (o : Option Ballot) → confirmed_commit s b w ≡ o → IsSendable timeouts (externalize s w o)
      go None k = h
      go (Some t) k =
          let r = interval (λ low. commit_confirmed s w t.value low t.counter) s w t
          (greatest-of (λ t. same_value t.value b.value && commit_confirmed s w t.value t.counter t.counter)
          (commits s w) t k).0 in
          record {
            voted = h.voted;
            accepts = h.accepts;
            timers = h.timers;
            counted = h.counted;
            placed = (r.1.0, r.1.1);
          }
  confirm-keeps Externalized s b w h = h
