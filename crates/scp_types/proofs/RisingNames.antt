-- Names that rise differ, and sorted names rise exactly where no name stands twice in what was sorted.
use Rattle.std.proofs.Common.{◌≡◌, ◌≢◌, ℕ, zero, suc, ◌<◌, ◌+◌, Bool, true, false, ◌==◌, ltb, List, [], ◌∷◌, get_or, refl, sym, subst, arith}
use Rattle.std.specs.Prelude.{AllPairs}
use Rattle.std.specs.List.{IsDistinct}
use Rattle.std.specs.List.Sorted.{IsPermutation, IsNonDecreasing, IsSorted, IsStrictlyIncreasing}
use Rattle.std.proofs.Math.Path.{fun_ext}
use Rattle.std.proofs.lemmas.Bool.{ltb-true, lt-ltb}
use Rattle.std.proofs.lemmas.Bool.Decides.{Decides-eqb, nat_tests}
use Rattle.std.proofs.lemmas.List.Kept.{AllPairs-from_increasing}
use Rattle.std.proofs.lemmas.List.Sorted.{IsNonDecreasingBy-from_sort, IsPermutation-sym}
use Rattle.std.proofs.lemmas.Map.Keys.{IsDistinct-IsPermutation, IsStrictlyIncreasing-from_distinct}
use Rattle.std.proofs.lemmas.Map.Made.{AllPairs-from_IsDistinct, IsDistinct-from_AllPairs}
use Rattle.scp_types.specs.Trees.{all_differ, rises}
use Rattle.scp_types.specs.contracts.node_id.NodeIdOrd.TheImpl.{ghosts as ord}
use Rattle.scp_types.proofs.Bools.{both, join}
use Rattle.scp_types.proofs.NameOrder.{name_cmp_is}
use Rattle.scp_types.proofs.NestedRules.{differing, differing_test}

-- ---- the test of names that rise
pub increases : (ys : List ℕ) → rises ys ≡ true → IsStrictlyIncreasing ys
increases [] h k l = absurd (omega (arith, l))
increases (x ∷ []) h k l = absurd (omega (arith, l))
increases (x ∷ y ∷ ys) h zero l = ltb-true x y (both (ltb x y) (rises (y ∷ ys)) h).0
increases (x ∷ y ∷ ys) h (suc k) l =
    let e : suc (k + 1) ≡ suc k + 1 = omega arith in
    subst (λ n. get_or (y ∷ ys) k 0 < get_or (x ∷ y ∷ ys) n 0) e (increases (y ∷ ys) (both (ltb x y) (rises (y ∷ ys)) h).1 k (omega (arith, l)))

pub rising : (ys : List ℕ) → IsStrictlyIncreasing ys → rises ys ≡ true
rising [] h = refl
rising (x ∷ []) h = refl
rising (x ∷ y ∷ ys) h =
    join (ltb x y) (rises (y ∷ ys)) (lt-ltb x y (h 0 (omega arith))) (rising (y ∷ ys) (λ k l.
    let e : suc k + 1 ≡ suc (k + 1) = omega arith in
    subst (λ n. get_or (y ∷ ys) k 0 < get_or (x ∷ y ∷ ys) n 0) e (h (suc k) (omega (arith, l)))))

apart : (ys : List ℕ) → rises ys ≡ true → AllPairs (λ u w. u ≢ w) ys
apart ys h i j d l m e = omega (arith, AllPairs-from_increasing ys (increases ys h) i j d l m, e)

pub rising_differ : (ys : List ℕ) → rises ys ≡ true → all_differ ys ≡ true
rising_differ ys h = differing_test ys (apart ys h)

-- ---- sorting
flips : (x y : ℕ) → (x == y) ≡ (y == x)
flips x y = grind (arith, nat_tests)

same : (x y : Bool) → (x ≡ true → y ≡ true) → (y ≡ true → x ≡ true) → x ≡ y
same true y f g = sym (f refl)
same false true f g = g refl
same false false f g = refl

moved : (xs ys : List ℕ) → IsPermutation xs ys → IsDistinct (λ x y. x == y) xs → IsDistinct (λ x y. x == y) ys
moved xs ys p h = IsDistinct-IsPermutation (λ x y. x == y) flips xs ys p h

pub rises-where-differ : (xs ys : List ℕ) → IsPermutation xs ys → IsNonDecreasing ys → rises ys ≡ all_differ xs
rises-where-differ xs ys p up = same (rises ys) (all_differ xs)
    (λ h. differing_test xs (AllPairs-from_IsDistinct Decides-eqb xs (moved ys xs (IsPermutation-sym xs ys p) (IsDistinct-from_AllPairs Decides-eqb ys (apart ys h)))))
    (λ h. rising ys (IsStrictlyIncreasing-from_distinct ys up (moved xs ys p (IsDistinct-from_AllPairs Decides-eqb xs (differing xs h)))))

-- what a sort of names gives
pub rises-once-sorted : (xs ys : List ℕ) → IsPermutation xs ys → IsSorted ord.cmp ys → rises ys ≡ all_differ xs
rises-once-sorted xs ys p sorted =
    let by_number = subst (λ f. IsSorted f ys) (fun_ext (λ x. fun_ext (λ y. name_cmp_is x y))) sorted in
    rises-where-differ xs ys p (IsNonDecreasingBy-from_sort (λ x. x) ys by_number)
