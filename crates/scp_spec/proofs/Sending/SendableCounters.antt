-- Raising a counter and arming a timer keep a ballot that a statement may have. `Nodes` stands on it.
use Rattle.std.proofs.Common.{◌≡◌, ℕ, ◌+◌, ◌-◌, ◌≤◌, ◌<◌, Bool, true, false, not, ◌&&◌, ◌||◌, ◌==◌, nat_lt, Option, Some, None, if◌then◌else◌, refl, sym, ◌∙◌, subst, arith}
use Rattle.std.specs.Prelude.{IfSome}
use Rattle.std.proofs.lemmas.Bool.Decides.{nat_tests}
use Rattle.scp_types.specs.declared.ballot.Ballot.{Ballot}
use Rattle.scp_types.specs.declared.state.Phase.{Phase}
use Rattle.scp_types.specs.declared.state.Phase.TheVariants.{Preparing, Committing, Externalized}
use Rattle.scp_types.specs.declared.state.Inputs.{Inputs}
use Rattle.scp_types.specs.declared.state.Votes.{Votes}
use Rattle.scp_spec.specs.Views.{Seen, passes}
use Rattle.scp_spec.specs.States.{below, ballot_with, counter_of, position}
use Rattle.scp_spec.specs.Timers.{cap}
use Rattle.scp_spec.specs.Passes.{has_counter, value_once_raised, ballot_at_counter, counter_after_raise, raise, arm}
use Rattle.scp_spec.proofs.Ballots.Above.{least_from-low}
use Rattle.scp_spec.proofs.Ballots.Order.{below-parts, not_below-counter, less}
use Rattle.scp_spec.proofs.Passes.RuleByRule.{ballot_at_counter-counter}
use Rattle.scp_spec.proofs.Balloting.Counters.{arm-moves}
use Rattle.scp_spec.proofs.Sending.Sendable.{IsPlaced, IsSendable}
use Rattle.scp_spec.proofs.Sets.Numbers.{through}

-- a ballot is not above one of a greater counter
past-counter : (a b : Ballot) → b.counter < a.counter → below a b ≡ false
past-counter a b h = below-parts a b ∙ over a.counter b.counter (less a.value b.value) h
  where
    over : (m n : ℕ) (l : Bool) → n < m → (nat_lt m n || ((m == n) && l)) ≡ false
    over m n true h = grind (arith, nat_tests)
    over m n false h = grind (arith, nat_tests)

-- a counter that is not lowered keeps what is placed
ballot_at_counter-placed : (p : Phase) (w : Votes) (b : Ballot) (confirmed_prepared : Option Ballot) (n low high : ℕ)
    → b.counter ≤ n
    → IsPlaced p (Some b) confirmed_prepared low high
    → IsPlaced p (Some (ballot_at_counter w b n)) confirmed_prepared low high
ballot_at_counter-placed Preparing w b None n low high k h = tt
ballot_at_counter-placed Preparing w b (Some x) n low high k h = go (n == b.counter) refl
  where
    over : (x m n : ℕ) → x ≤ m → m ≤ n → (n == m) ≡ false → x < n
    over x m n h k e = grind (arith, nat_tests)

    go : (c : Bool) → (n == b.counter) ≡ c
        → below (if c then b else ballot_with n (value_once_raised w.phase w b.value)) x ≡ false
    go true e = h
    go false e =
        past-counter (ballot_with n (value_once_raised w.phase w b.value)) x
        (over x.counter b.counter n (not_below-counter b x h) k e)
ballot_at_counter-placed Committing w b confirmed_prepared n low high k h =
    (h.0, (h.1.0, subst (λ m. high ≤ m) (sym (ballot_at_counter-counter w b n)) (through high b.counter n h.1.1 k)))
ballot_at_counter-placed Externalized w b confirmed_prepared n low high k h = h

-- so does a raise, to a counter that is not below the timers
pub ballot_at_counter-keeps : (timeouts more : ℕ) (w : Votes) (b : Ballot) (n : ℕ) → w.ballot ≡ Some b → b.counter ≤ n
    → more ≤ n
    → IsSendable timeouts w → IsSendable more (record w { ballot = Some (ballot_at_counter w b n) })
ballot_at_counter-keeps timeouts more w b n e k l h = record {
  voted = h.voted;
  accepts = h.accepts;
  timers = subst (λ m. more ≤ m) (sym (ballot_at_counter-counter w b n)) l;
  counted =
      subst (λ m. 1 ≤ m) (sym (ballot_at_counter-counter w b n))
      (through 1 b.counter n (subst (λ o. IfSome o (λ b. 1 ≤ b.counter)) e h.counted) k);
  placed =
      ballot_at_counter-placed w.phase w b w.confirmed_prepared n w.low w.high k (subst (λ o. IsPlaced w.phase o w.confirmed_prepared w.low w.high) e h.placed);
}

module _ (timeouts : ℕ) where
  pub raise-keeps : (s : Seen) (g : Inputs) (b : Ballot) (w : Votes) → w.ballot ≡ Some b → IsSendable timeouts w
      → IsSendable timeouts (raise s g b w)
  unfolding raise counter_after_raise
  raise-keeps s g b w e h =
      let up = least_from-low (cap g.ballot_timeouts - b.counter) b.counter
      (λ n. not (s.blocking _ (passes (has_counter (n + 1)) (position w)) (has_counter (n + 1)))) in
      ballot_at_counter-keeps timeouts timeouts w b _ e up
      (through timeouts b.counter _ (subst (λ o. timeouts ≤ counter_of o) e h.timers) up) h

  pub arm-keeps : (s : Seen) (b : Ballot) (w : Votes) → IsSendable timeouts w → IsSendable timeouts (arm s b w)
  arm-keeps s b w h = let a = arm-moves s b w in
      subst (IsSendable timeouts) (sym a.1)
      (record { voted = h.voted; accepts = h.accepts; timers = h.timers; counted = h.counted; placed = h.placed })
