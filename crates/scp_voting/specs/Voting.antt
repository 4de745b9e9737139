-- Federated voting on one statement, for slices of any kind: when a node accepts it and when it confirms it.
use Rattle.std.specs.Prelude.{ℕ, Bool, Option, IsSomeAnd, ◌⊎◌}
use Rattle.scp_spec.specs.Sets.{Names}
use Rattle.scp_spec.specs.Satisfaction.{Blocks}
use Rattle.scp_spec.specs.Quorums.{HasQuorum}

-- federated voting: some quorum that contains the node all votes for or accepts it, or the set of those who accept it
-- blocks its slices
abbrev pub Accepted : {Q : Type 0} → (Q → Names → Bool) → (ℕ → Option Q) → (backing accepting : Names) → ℕ → Type 0
Accepted sat slices_at backing accepting v =
    HasQuorum sat slices_at backing v ⊎ IsSomeAnd (slices_at v) (λ q. Blocks sat q accepting)

-- federated voting: some quorum that contains the node all accepts it
abbrev pub Confirmed : {Q : Type 0} → (Q → Names → Bool) → (ℕ → Option Q) → (accepting : Names) → ℕ → Type 0
Confirmed sat slices_at accepting v = HasQuorum sat slices_at accepting v
