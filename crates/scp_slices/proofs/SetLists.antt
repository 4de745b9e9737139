-- Ascending lists as sets: what a binary search finds, and what a sort makes of names that differ.
use Rattle.std.proofs.Common.{◌≡◌, ◌≢◌, ℕ, ◌<◌, ◌≤◌, ◌==◌, List, length, get_or, Result, Ok, Err, sym, inl, inr, arith}
use Rattle.std.specs.Prelude.{AllPairs}
use Rattle.std.specs.List.Sorted.{IsPermutation, IsSorted, IsBinarySearchResult}
use Rattle.std.specs.Ordering.{nat_cmp}
use Rattle.std.specs.Result.{MatchResult, is_ok}
use Rattle.std.proofs.lemmas.Bool.{cases_lt, eq-eqb, ne_eqb}
use Rattle.std.proofs.lemmas.Bool.Decides.{Decides-eqb, nat_tests}
use Rattle.std.proofs.lemmas.List.{get_or_default}
use Rattle.std.proofs.lemmas.List.Folds.{list_any_at, list_any_none}
use Rattle.std.proofs.lemmas.List.Kept.{AllPairs-from_increasing}
use Rattle.std.proofs.lemmas.List.Sorted.{searched, list_any-IsPermutation}
use Rattle.std.proofs.lemmas.Map.Keys.{IsDistinct-IsPermutation, IsStrictlyIncreasing-from_distinct}
use Rattle.std.proofs.lemmas.Map.Made.{IsDistinct-from_AllPairs}
use Rattle.std.proofs.lemmas.List.Sorted.{IsNonDecreasingBy-from_sort}
use Rattle.scp_spec.specs.Sets.{among, IsAscending}

rises : (xs : List ℕ) → IsAscending xs → (i j : ℕ) → i ≤ j → j < length xs → get_or xs i 0 ≤ get_or xs j 0
rises xs up i j h k = elim (cases_lt i j) [
  | inl l ↦ omega (arith, up i j 0 l k)
  | inr m ↦ let e : i ≡ j = omega arith in rw e (omega arith)
]

answer : (xs : List ℕ) (x : ℕ) (r : Result ℕ ℕ) →
    MatchResult r (λ i. (i < length xs) × (get_or xs i 0 ≡ x)) (λ i. (i ≤ length xs) × ((k : ℕ) → k < i → get_or xs k 0 < x) × ((k : ℕ) → i ≤ k → k < length xs → x < get_or xs k 0))
    → is_ok r ≡ among xs x
answer xs x (Ok i) h = sym (list_any_at (λ y. y == x) xs i 0 h.0 (eq-eqb (get_or xs i 0) x h.1))
answer xs x (Err i) h = sym (list_any_none (λ y. y == x) xs (λ k d l. ne_eqb _ x (λ e.
    let zero_is = get_or_default xs k d 0 l in
    elim (cases_lt k i) [
      | inl m ↦ absurd (omega (arith, h.1 k m, zero_is, e))
      | inr m ↦ absurd (omega (arith, h.2 k m l, zero_is, e))
    ])))

-- a binary search in a set finds what is in it
pub is_found : (xs : List ℕ) (x : ℕ) (r : Result ℕ ℕ) → IsAscending xs → IsBinarySearchResult (λ y. nat_cmp y x) xs r → is_ok r ≡ among xs x
is_found xs x r up h = answer xs x r (searched xs x r h (rises xs up))

flips : (x y : ℕ) → (x == y) ≡ (y == x)
flips x y = grind (arith, nat_tests)

-- names that differ are a set once they are sorted
pub sorted_set : (xs ys : List ℕ) → AllPairs (λ x y. x ≢ y) xs → IsPermutation xs ys → IsSorted nat_cmp ys → IsAscending ys
sorted_set xs ys differ moved sorted =
    let apart = IsDistinct-IsPermutation (λ x y. x == y) flips xs ys moved (IsDistinct-from_AllPairs Decides-eqb xs differ) in
    AllPairs-from_increasing ys (IsStrictlyIncreasing-from_distinct ys (IsNonDecreasingBy-from_sort (λ x. x) ys sorted) apart)

-- and they are still the same names
pub same_names : (xs ys : List ℕ) → IsPermutation xs ys → (u : ℕ) → among ys u ≡ among xs u
same_names xs ys moved u = sym (list_any-IsPermutation (λ x. x == u) xs ys moved)
