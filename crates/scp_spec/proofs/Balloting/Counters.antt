-- Raising the counter and arming its timer: what moves, and where nothing does. `Passes` and `Sending` stand on it.
use Rattle.std.proofs.Common.{◌≡◌, ℕ, ◌+◌, ◌-◌, ◌≤◌, Bool, true, false, not, Option, Some, None, if◌then◌else◌, refl, sym, ◌∙◌, ap, subst, inl, inr, ◌⊎◌, arith}
use Rattle.std.proofs.lemmas.Bool.{cases_Bool, false≢true, true≢false, eq-eqb, not_from_false, not-true, false_from_ne_true}
use Rattle.std.proofs.lemmas.Bool.Decides.{nat_tests}
use Rattle.scp_types.specs.declared.ballot.Ballot.{Ballot}
use Rattle.scp_types.specs.declared.statement.Statement.{Statement}
use Rattle.scp_spec.proofs.Balloting.Tests.{Fair, blocking_more}
use Rattle.scp_spec.specs.Timers.{cap}
use Rattle.scp_spec.specs.Passes.{has_counter, ballot_at_counter, raise, arm, counter_after_raise}
use Rattle.scp_types.specs.declared.statement.Statement.TheVariants.{Nominate, Prepare, Commit, Externalize}
use Rattle.scp_types.specs.declared.kind.Kind.{Kind}
use Rattle.scp_spec.specs.Views.{Seen, passes}
use Rattle.scp_types.specs.declared.state.Phase.{Phase}
use Rattle.scp_types.specs.declared.state.Inputs.{Inputs}
use Rattle.scp_types.specs.declared.state.Votes.{Votes}
use Rattle.scp_spec.specs.States.{high_counter, commit_counter, position_in, position}
use Rattle.scp_spec.specs.Candidates.{least_from}
use Rattle.scp_types.specs.declared.state.Phase.TheVariants.{Preparing, Committing, Externalized}
use Rattle.scp_spec.proofs.Ballots.Above.{least_from-low, least_from-ends, least_from-still}

-- Counters: from n on nothing is to be raised
abbrev pub Risen : Seen → Inputs → ℕ → Type 0
Risen s g n = (cap g.ballot_timeouts ≤ n) ⊎ (s.blocking Kind.Ballot false (has_counter (n + 1)) ≡ false)

has_counter-less : (m n : ℕ) (x : Statement) → m ≤ n → has_counter n x ≡ true → has_counter m x ≡ true
has_counter-less m n (Nominate v a) h k = k
has_counter-less m n (Prepare b p a c d) h k = grind (arith, nat_tests)
has_counter-less m n (Commit b p c d) h k = grind (arith, nat_tests)
has_counter-less m n (Externalize b d) h k = refl

pub risen-up : (s : Seen) → Fair s → (g : Inputs) (m n : ℕ) → m ≤ n → Risen s g m → Risen s g n
risen-up s f g m n h (inl r) = inl (omega (arith, h, r))
risen-up s f g m n h (inr r) =
    inr (false_from_ne_true _ (λ b. true≢false
    (sym (blocking_more s f Kind.Ballot None None (has_counter (n + 1)) (has_counter (m + 1))
    (λ x i. has_counter-less (m + 1) (n + 1) x (omega (arith, h)) i) (λ i. i) b) ∙ r)))

-- a raise ends where no more is needed
pub raise-moves : (s : Seen) → Fair s → (g : Inputs) (b : Ballot) (w : Votes)
    → (n : ℕ) × (raise s g b w ≡ record w { ballot = Some (ballot_at_counter w b n) }) × (b.counter ≤ n) × Risen s g n
unfolding raise counter_after_raise
raise-moves s f g b w =
    let test : ℕ → Bool =
    λ n. not (s.blocking Kind.Ballot (passes (has_counter (n + 1)) (position w)) (has_counter (n + 1))) in
    let n = least_from (cap g.ballot_timeouts - b.counter) b.counter test in
    let low = least_from-low (cap g.ballot_timeouts - b.counter) b.counter test in (
      n,
      refl,
      low,
      elim (least_from-ends (cap g.ballot_timeouts - b.counter) b.counter test) [
        | inl e ↦ inr
            (false_from_ne_true _ (λ k. true≢false
            (sym (blocking_more s f Kind.Ballot None (position w) (has_counter (n + 1)) (has_counter (n + 1)) (λ x i. i)
            (λ i. absurd (false≢true i)) k) ∙ not-true _ e)))
        | inr e ↦ inl (cap_over (cap g.ballot_timeouts) b.counter n e)
      ],
    )
  where
    cap_over : (c b n : ℕ) → b + (c - b) ≤ n → c ≤ n
    cap_over c b n h = omega (arith, h)

pub raise-still : (s : Seen) → Fair s → (g : Inputs) (b : Ballot) (w : Votes) → w.ballot ≡ Some b
    → passes (has_counter (b.counter + 1)) (position w) ≡ false → Risen s g b.counter → raise s g b w ≡ w
unfolding raise counter_after_raise
raise-still s f g b w e c r =
    let test : ℕ → Bool =
    λ n. not (s.blocking Kind.Ballot (passes (has_counter (n + 1)) (position w)) (has_counter (n + 1))) in
    let q : least_from (cap g.ballot_timeouts - b.counter) b.counter test ≡ b.counter =
    least_from-still (cap g.ballot_timeouts - b.counter) b.counter test (ends r) in
    rw (q, eq-eqb b.counter b.counter refl) (λ i. record w { ballot = sym e i })
  where
    ends : Risen s g b.counter
        → (cap g.ballot_timeouts - b.counter ≡ 0)
        ⊎ (not (s.blocking Kind.Ballot (passes (has_counter (b.counter + 1)) (position w))
        (has_counter (b.counter + 1))) ≡ true)
    ends (inl h) = inl (omega (arith, h))
    ends (inr h) =
        inr (not_from_false _ (false_from_ne_true _
        (λ k. true≢false (sym (blocking_more s f Kind.Ballot (position w) None (has_counter (b.counter + 1))
        (has_counter (b.counter + 1)) (λ x i. i) (λ i. absurd (true≢false (sym i ∙ c))) k) ∙ h))))

pub arm-moves : (s : Seen) (b : Ballot) (w : Votes) → (n : ℕ) × (arm s b w ≡ record w { armed = n })
unfolding arm
arm-moves s b w =
    elim (cases_Bool (s.quorum Kind.Ballot (passes (has_counter b.counter) (position w)) (has_counter b.counter))) [
      | inl e ↦ rw e (b.counter, refl)
      | inr e ↦ rw e (w.armed, refl)
    ]

-- the position does not tell what is armed
pub position-armed : (w : Votes) (n : ℕ) → position (record w { armed = n }) ≡ position w
unfolding position position_in high_counter commit_counter
position-armed w n = go w.phase w.ballot w.confirmed_prepared w.commit refl refl refl refl
  where
    go : (p : Phase) (b h c : Option Ballot) → w.phase ≡ p → w.ballot ≡ b → w.confirmed_prepared ≡ h → w.commit ≡ c
        → position (record w { armed = n }) ≡ position w
    go p None h c i j k l = rw j refl
    go Preparing (Some b) None None i j k l = rw (i, j, k, l) refl
    go Preparing (Some b) (Some h) None i j k l = rw (i, j, k, l) refl
    go Preparing (Some b) None (Some c) i j k l = rw (i, j, k, l) refl
    go Preparing (Some b) (Some h) (Some c) i j k l = rw (i, j, k, l) refl
    go Committing (Some b) h c i j k l = rw (i, j) refl
    go Externalized (Some b) h c i j k l = rw (i, j) refl

arm-at : (s : Seen) (b : Ballot) (w : Votes) (c : Bool)
    → s.quorum Kind.Ballot (passes (has_counter b.counter) (position w)) (has_counter b.counter) ≡ c
    → arm s b w ≡ (if c then record w { armed = b.counter } else w)
unfolding arm
arm-at s b w c e = ap (λ c. if c then record w { armed = b.counter } else w) e

pub arm-still : (s : Seen) (b : Ballot) (w : Votes) → arm s b (arm s b w) ≡ arm s b w
arm-still s b w =
    elim (cases_Bool (s.quorum Kind.Ballot (passes (has_counter b.counter) (position w)) (has_counter b.counter))) [
      | inl e ↦ let q : arm s b w ≡ record w { armed = b.counter } = arm-at s b w true e in
          let k : s.quorum Kind.Ballot (passes (has_counter b.counter) (position (record w { armed = b.counter })))
          (has_counter b.counter) ≡ true =
          ap (λ o. s.quorum Kind.Ballot (passes (has_counter b.counter) o) (has_counter b.counter))
          (position-armed w b.counter) ∙ e in
          subst (λ (x : Votes). arm s b x ≡ x) (sym q) (arm-at s b (record w { armed = b.counter }) true k)
      | inr e ↦ let q : arm s b w ≡ w = arm-at s b w false e in subst (λ (x : Votes). arm s b x ≡ x) (sym q) q
    ]
