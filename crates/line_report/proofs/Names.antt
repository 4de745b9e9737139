-- Lists of names: taken one by one, sorted, and cut to those that pass a test.
use Rattle.std.proofs.Common.{◌≡◌, ℕ, zero, suc, ◌+◌, ◌≤◌, ◌==◌, ◌&&◌, Bool, List, [], ◌∷◌, ◌++◌, length, take, slice_get, Some, None, ◌∙◌, ap, arith}
use Rattle.std.specs.Prelude.{filter}
use Rattle.std.specs.List.{IsDistinct}
use Rattle.std.specs.List.Sorted.{IsPermutation, IsSorted}
use Rattle.std.specs.Ordering.{nat_cmp}
use Rattle.std.proofs.lemmas.Bool.{eqb-true}
use Rattle.std.proofs.lemmas.Bool.Decides.{nat_tests}
use Rattle.std.proofs.lemmas.List.{take_more}
use Rattle.std.proofs.lemmas.List.Kept.{AllPairs-from_increasing}
use Rattle.std.proofs.lemmas.List.Sorted.{IsNonDecreasingBy-from_sort}
use Rattle.std.proofs.lemmas.Map.Keys.{IsDistinct-IsPermutation, IsStrictlyIncreasing-from_distinct}
use Rattle.std.proofs.lemmas.Map.Views.{any-filter_same}
use Rattle.std.proofs.lemmas.Option.{slice_get_within, get_or_from_slice_get}
use Rattle.scp_spec.specs.Sets.{IsAscending, among}

flips : (x y : ℕ) → (x == y) ≡ (y == x)
flips x y = grind (arith, nat_tests)

-- names of which none stands twice are a set once they are sorted
pub sorted_once : (xs ys : List ℕ) → IsDistinct (λ x y. x == y) xs → IsPermutation xs ys → IsSorted nat_cmp ys → IsAscending ys
sorted_once xs ys once moved sorted = AllPairs-from_increasing ys (IsStrictlyIncreasing-from_distinct ys (IsNonDecreasingBy-from_sort (λ x. x) ys sorted) (IsDistinct-IsPermutation (λ x y. x == y) flips xs ys moved once))

pub taken_more : (xs : List ℕ) (n x : ℕ) → slice_get xs n ≡ Some x → take (n + 1) xs ≡ take n xs ++ x ∷ []
taken_more xs n x e = take_more xs n x (slice_get_within xs n x e) ∙ ap (λ y. take n xs ++ y ∷ []) (get_or_from_slice_get xs n x x e)

pub none_taken : (xs : List ℕ) (k : ℕ) → slice_get xs k ≡ None → length xs ≤ k
none_taken [] k e = omega arith
none_taken (x ∷ xs) zero e = cc
none_taken (x ∷ xs) (suc k) e = let r = none_taken xs k e in omega arith

-- who is among those that pass a test
pub among-filter : (p : ℕ → Bool) (xs : List ℕ) (u : ℕ) → among (filter p xs) u ≡ (p u && among xs u)
among-filter p xs u = any-filter_same (λ x. x == u) p (p u) (λ x h. ap p (eqb-true x u h)) xs
