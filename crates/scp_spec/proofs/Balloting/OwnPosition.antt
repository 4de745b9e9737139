-- What the own position names, and what it does not accept: with a fair sight, nothing above what it has prepared.
-- `Passes` stands on it.
use Rattle.std.proofs.Common.{◌≡◌, ℕ, ◌≤◌, Bool, true, false, ◌&&◌, ◌||◌, ◌==◌, nat_lt, nat_le, [], ◌∷◌, ◌++◌, Option, Some, None, option_to_list, refl, sym, ◌∙◌, ap, inl, inr, ◌⊎◌, arith}
use Rattle.std.proofs.lemmas.Bool.{cases_Bool, or_cases, or_left, or_right, true≢false}
use Rattle.std.proofs.lemmas.Bool.Decides.{nat_tests}
use Rattle.scp_types.specs.declared.ballot.Ballot.{Ballot}
use Rattle.scp_types.specs.declared.statement.Statement.{Statement}
use Rattle.scp_spec.proofs.Balloting.Tests.{takes_prepare, Fair, quorum_own, quorum_more, blocking_more}
use Rattle.scp_types.specs.declared.statement.Statement.TheVariants.{Prepare, Commit}
use Rattle.scp_types.specs.declared.kind.Kind.{Kind}
use Rattle.scp_spec.specs.Views.{Seen, passes, accepted}
use Rattle.scp_types.specs.declared.state.Votes.{Votes}
use Rattle.scp_spec.specs.States.{counter_of, high_counter, commit_counter, position_in, position}
use Rattle.scp_types.specs.declared.state.Phase.TheVariants.{Preparing, Committing}
use Rattle.scp_spec.specs.Extremes.{IsIn}
use Rattle.scp_spec.proofs.Ballots.Order.{less, less-self, below-parts, below-counter}
use Rattle.scp_spec.proofs.Ballots.Above.{above}
use Rattle.scp_types.specs.Votes.{same_value}
use Rattle.scp_spec.proofs.Equality.Sameness.{same_value-true}
use Rattle.scp_spec.proofs.Balloting.Named.{own_named}

-- the own position
pub position-preparing : (w : Votes) (b : Ballot) → w.phase ≡ Preparing → w.ballot ≡ Some b
    → position w ≡ Some (Prepare b w.prepared w.aborted (high_counter w b) (commit_counter w b))
unfolding position position_in
position-preparing w b p e = rw (p, e) refl

pub position-committing : (w : Votes) (b : Ballot) → w.phase ≡ Committing → w.ballot ≡ Some b
    → position w ≡ Some (Commit b (counter_of w.prepared) w.high w.low)
unfolding position position_in
position-committing w b p e = rw (p, e) refl

pub own-preparing : (w : Votes) (b : Ballot) (t : Ballot) → w.phase ≡ Preparing → w.ballot ≡ Some b
    → IsIn t (own_named w) → (t ≡ b) ⊎ (w.prepared ≡ Some t)
own-preparing w b t p e i = go w.prepared (rw (position-preparing w b p e) at i)
  where
    go : (o : Option Ballot) → IsIn t ((b ∷ option_to_list o) ++ []) → (t ≡ b) ⊎ (o ≡ Some t)
    go o (inl q) = inl q
    go None (inr q) = absurd q
    go (Some x) (inr (inl q)) = inr (ap {B = Option Ballot} Some (sym q))
    go (Some x) (inr (inr q)) = absurd q

-- what v's own position does not accept: accepted again with another position that backs it if this one does
pub accepted-from : (s : Seen) → Fair s → (own other : Option Statement) (backs accepts : Statement → Bool)
    → (passes backs own ≡ true → passes backs other ≡ true) → passes accepts own ≡ false
    → accepted s Kind.Ballot own backs accepts ≡ true → accepted s Kind.Ballot other backs accepts ≡ true
accepted-from s f own other backs accepts m n h =
    elim (or_cases (s.quorum Kind.Ballot (passes backs own) backs)
    (s.blocking Kind.Ballot (passes accepts own) accepts) h) [
      | inl q ↦ or_left (s.quorum Kind.Ballot (passes backs other) backs)
          (s.blocking Kind.Ballot (passes accepts other) accepts)
          (quorum_more s f Kind.Ballot own other backs (m (quorum_own s f Kind.Ballot own backs q)) q)
      | inr q ↦ or_right (s.quorum Kind.Ballot (passes backs other) backs)
          (s.blocking Kind.Ballot (passes accepts other) accepts)
          (blocking_more s f Kind.Ballot own other accepts accepts (λ x i. i) (λ i. absurd (true≢false (sym i ∙ n))) q)
    ]

-- what is above p is not accepted by v itself
pub not_own : (b : Ballot) (p : Option Ballot) (a h c : ℕ) (t : Ballot) → a ≤ counter_of p → above p t ≡ true
    → takes_prepare t (Prepare b p a h c) ≡ false
not_own b None a h c t i j = over a t.counter i
  where
    over : (a n : ℕ) → a ≤ 0 → nat_lt n a ≡ false
    over a n h = grind (arith, nat_tests)
not_own b (Some p) a h c t i j = elim (cases_Bool (same_value p.value t.value)) [
  | inl e ↦ rw e
      (same_one a p.counter t.counter (less p.value t.value) i (sym (below-parts p t) ∙ j)
      (ap (λ x. less x t.value) (same_value-true p.value t.value e) ∙ less-self t.value))
  | inr e ↦ rw e (other a p.counter t.counter i (below-counter p t j))
]
  where
    same_one : (a m n : ℕ) (l : Bool) → a ≤ m → (nat_lt m n || ((m == n) && l)) ≡ true → l ≡ false
        → (nat_le n m || nat_lt n a) ≡ false
    same_one a m n true h k e = absurd (true≢false e)
    same_one a m n false h k e = grind (arith, nat_tests)

    other : (a m n : ℕ) → a ≤ m → m ≤ n → nat_lt n a ≡ false
    other a m n h k = grind (arith, nat_tests)

-- so what v accepts is not above p
pub own_under : (b : Ballot) (p : Option Ballot) (a h c : ℕ) (t : Ballot) → a ≤ counter_of p
    → takes_prepare t (Prepare b p a h c) ≡ true → above p t ≡ false
own_under b p a h c t i j = elim (cases_Bool (above p t)) [
  | inl k ↦ absurd (true≢false (sym j ∙ not_own b p a h c t i k))
  | inr k ↦ k
]
