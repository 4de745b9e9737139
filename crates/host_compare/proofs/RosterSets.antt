-- Two rosters have the same names where each has those of the other.
use Rattle.std.proofs.Common.{◌≡◌, ℕ, List, IsTrue, sym, ◌∙◌}
use Rattle.scp_spec.specs.Sets.{among, within}
use Rattle.scp_spec.proofs.Sets.Finite.{all_at, all_from, same_test}

pub same_names : (xs ys : List ℕ) → IsTrue (within xs (among ys)) → IsTrue (within ys (among xs)) → (u : ℕ) → among xs u ≡ among ys u
same_names xs ys h k u = same_test (among xs u) (among ys u) (all_at (among ys) xs u h) (all_at (among xs) ys u k)

pub within_same : (xs ys : List ℕ) → ((u : ℕ) → among xs u ≡ among ys u) → IsTrue (within xs (among ys))
within_same xs ys h = all_from (among ys) xs (λ u m. sym (h u) ∙ m)
