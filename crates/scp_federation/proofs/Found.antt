-- Where a binary search finds a name of an ascending list.
use Rattle.std.proofs.Common.{◌≡◌, ℕ, ◌<◌, ◌≤◌, List, length, get_or, Result, Ok, subst, inl, inr, arith}
use Rattle.std.specs.List.Sorted.{IsBinarySearchResult}
use Rattle.std.specs.Ordering.{nat_cmp}
use Rattle.std.specs.Result.{MatchResult}
use Rattle.std.proofs.lemmas.Bool.{cases_lt}
use Rattle.std.proofs.lemmas.List.Sorted.{searched}
use Rattle.scp_spec.specs.Sets.{IsAscending}

rises : (xs : List ℕ) → IsAscending xs → (i j : ℕ) → i ≤ j → j < length xs → get_or xs i 0 ≤ get_or xs j 0
rises xs up i j h k = elim (cases_lt i j) [
  | inl l ↦ omega (arith, up i j 0 l k)
  | inr m ↦ let e : i ≡ j = omega arith in rw e (omega arith)
]

at_ok : (P Q : ℕ → Type 0) (r : Result ℕ ℕ) (i : ℕ) → r ≡ Ok i → MatchResult r P Q → P i
at_ok P Q r i e h = subst (λ s. MatchResult s P Q) e h

pub found_at : (xs : List ℕ) (x i : ℕ) (r : Result ℕ ℕ) → IsAscending xs → IsBinarySearchResult (λ y. nat_cmp y x) xs r → r ≡ Ok i → (i < length xs) × (get_or xs i 0 ≡ x)
found_at xs x i r up h e =
    at_ok (λ k. (k < length xs) × (get_or xs k 0 ≡ x)) (λ k. (k ≤ length xs) × ((j : ℕ) → j < k → get_or xs j 0 < x) × ((j : ℕ) → k ≤ j → j < length xs → x < get_or xs j 0)) r i e
    (searched xs x r h (rises xs up))
