-- The greater of a ballot and one that may be there already. `EntersCommit` and `WidensCommit` stand on it.
use Rattle.std.proofs.Common.{◌≡◌, ◌≤◌, false, [], ◌∷◌, Option, Some, None, refl, inl, inr, ◌⊎◌, arith}
use Rattle.std.proofs.lemmas.Bool.{true≢false}
use Rattle.scp_types.specs.declared.ballot.Ballot.{Ballot}
use Rattle.scp_spec.specs.States.{below, counter_of}
use Rattle.scp_spec.specs.Candidates.{greatest}
use Rattle.scp_spec.proofs.Ballots.Order.{not_below-counter}
use Rattle.scp_spec.proofs.Ballots.Above.{above, Under, greatest-keeps, greatest-above, greatest-from}

pub greatest-one : (o : Option Ballot) (t : Ballot)
    → (r : Ballot) × (greatest o (t ∷ []) ≡ Some r) × (below r t ≡ false) × Under o (Some r)
greatest-one o t = go (greatest o (t ∷ [])) (greatest-above o (t ∷ []) t (inl refl)) (greatest-keeps o (t ∷ [])) refl
  where
    go : (g : Option Ballot) → above g t ≡ false → Under o g → greatest o (t ∷ []) ≡ g
        → (r : Ballot) × (greatest o (t ∷ []) ≡ Some r) × (below r t ≡ false) × Under o (Some r)
    go None a u e = absurd (true≢false a)
    go (Some r) a u e = (r, e, a, u)

pub one-from : (o : Option Ballot) (t r : Ballot) → greatest o (t ∷ []) ≡ Some r → (o ≡ Some r) ⊎ (r ≡ t)
one-from o t r e = elim (greatest-from o (t ∷ []) r e) [
  | inl k ↦ inl k
  | inr (inl k) ↦ inr k
  | inr (inr k) ↦ absurd k
]

pub under-counters : (o : Option Ballot) (r : Ballot) → Under o (Some r) → counter_of o ≤ r.counter
under-counters None r u = omega arith
under-counters (Some p) r u = not_below-counter r p u
