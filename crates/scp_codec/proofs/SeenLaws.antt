-- A list of names that ascend finds those that were seen, and does so with one more.
use Rattle.std.proofs.Common.{◌≡◌, ◌≢◌, ℕ, zero, suc, ◌-◌, ◌<◌, ◌≤◌, Bool, true, false, ◌==◌, ltb, eq-eqb, List, [], ◌∷◌, ◌++◌, length, take, drop, get_or, refl, subst, arith, Result, MatchResult}
use Rattle.std.specs.List.{insert}
use Rattle.std.specs.List.Sorted.{IsBinarySearchResult}
use Rattle.std.proofs.Math.Path.{fun_ext}
use Rattle.std.proofs.lemmas.Bool.{and_from, and_parts, lt-ltb, ltb-false, ltb-true}
use Rattle.std.proofs.lemmas.Bool.Decides.{nat_tests}
use Rattle.std.proofs.lemmas.List.{get_or_default}
use Rattle.std.proofs.lemmas.List.Folds.{list_any_at, list_any_none}
use Rattle.std.proofs.lemmas.List.Sorted.{IsPermutation-append_right, IsPermutation-insert, IsPermutation-to_front, IsPermutation-trans, list_any-IsPermutation, searched}
use Rattle.std.proofs.lemmas.Map.Keys.{non_decreasing_from_sorted, sorted_from_strictly_increasing}
use Rattle.scp_types.specs.Trees.{rises}
use Rattle.scp_types.specs.contracts.node_id.NodeIdOrd.TheImpl.{ghosts as ord}
use Rattle.scp_types.proofs.NameOrder.{name_cmp_is}
use Rattle.scp_types.proofs.RisingNames.{increases}
use Rattle.scp_codec.specs.Faults.{is_among}
use Rattle.scp_codec.specs.FoundNames.{AreFound, IsPlace}

-- ---- the place of a name
never_falls : (ys : List ℕ) → rises ys ≡ true → (i j : ℕ) → i ≤ j → j < length ys → get_or ys i 0 ≤ get_or ys j 0
never_falls ys h i j l m = non_decreasing_from_sorted ys (sorted_from_strictly_increasing ys (increases ys h)) i j 0 l m

pub at_end : (ys : List ℕ) (u last : ℕ) → rises ys ≡ true → 0 < length ys → get_or ys (length ys - 1) 0 ≡ last → last < u → IsPlace ys u (length ys)
at_end ys u last h some is below = record {
  within = omega arith;
  before = λ k l. omega (arith, never_falls ys h k (length ys - 1) (omega (arith, l)) (omega (arith, some)), is, below);
  from = λ k l m. absurd (omega (arith, l, m));
}

-- what a binary search says of names
pub names_searched : (ys : List ℕ) (u : ℕ) (r : Result ℕ ℕ) → rises ys ≡ true → IsBinarySearchResult (λ y. ord.cmp y u) ys r
    → MatchResult r (λ i. (i < length ys) × (get_or ys i 0 ≡ u)) (λ i. (i ≤ length ys) × ((k : ℕ) → k < i → get_or ys k 0 < u) × ((k : ℕ) → i ≤ k → k < length ys → u < get_or ys k 0))
names_searched ys u r h is = searched ys u r (subst (λ f. IsBinarySearchResult f ys r) (fun_ext (λ y. name_cmp_is y u)) is) (never_falls ys h)

pub among : (ys : List ℕ) (u i : ℕ) → i < length ys → get_or ys i 0 ≡ u → is_among ys u ≡ true
among ys u i inside is = list_any_at (λ w. w == u) ys i 0 inside (eq-eqb (get_or ys i 0) u is)

differs : (v u : ℕ) → v ≢ u → (v == u) ≡ false
differs v u h = grind (arith, nat_tests)

pub missing : (ys : List ℕ) (u p : ℕ) → IsPlace ys u p → is_among ys u ≡ false
missing ys u p place = list_any_none (λ w. w == u) ys (λ k d inside. subst (λ v. (v == u) ≡ false) (get_or_default ys k 0 d inside) (differs (get_or ys k 0) u (other k inside)))
  where
    other : (k : ℕ) → k < length ys → get_or ys k 0 ≢ u
    other k inside e = go (ltb k p) refl
      where
        go : (b : Bool) → ltb k p ≡ b → ⊥
        go true below = absurd (omega (arith, place.before k (ltb-true k p below), e))
        go false behind = absurd (omega (arith, place.from k (ltb-false k p behind) inside, e))

-- ---- one more
rises_insert : (ys : List ℕ) (p u : ℕ) → rises ys ≡ true → IsPlace ys u p → rises (take p ys ++ u ∷ drop p ys) ≡ true
rises_insert [] zero u h place = refl
rises_insert [] (suc p) u h place = absurd (omega (arith, place.within))
rises_insert (x ∷ ys) zero u h place = and_from (ltb u x) (rises (x ∷ ys)) (lt-ltb u x (place.from 0 (omega arith) (omega arith))) h
rises_insert (x ∷ []) (suc zero) u h place = and_from (ltb x u) true (lt-ltb x u (place.before 0 (omega arith))) refl
rises_insert (x ∷ []) (suc (suc p)) u h place = absurd (omega (arith, place.within))
rises_insert (x ∷ y ∷ ys) (suc zero) u h place =
    and_from (ltb x u) (rises (u ∷ y ∷ ys)) (lt-ltb x u (place.before 0 (omega arith)))
    (and_from (ltb u y) (rises (y ∷ ys)) (lt-ltb u y (place.from 1 (omega arith) (omega arith))) (and_parts (ltb x y) (rises (y ∷ ys)) h).1)
rises_insert (x ∷ y ∷ ys) (suc (suc p)) u h place =
    let parts = and_parts (ltb x y) (rises (y ∷ ys)) h in
    and_from (ltb x y) (rises (y ∷ take p ys ++ u ∷ drop p ys)) parts.0 (rises_insert (y ∷ ys) (suc p) u parts.1 (record {
      within = omega (arith, place.within);
      before = λ k l. place.before (suc k) (omega (arith, l));
      from = λ k l m. place.from (suc k) (omega (arith, l)) (omega (arith, m));
    }))

pub one_more : (names ys : List ℕ) (u p : ℕ) → AreFound names ys → IsPlace ys u p → AreFound (names ++ u ∷ []) (insert ys p u)
one_more names ys u p found place = record {
  rising = rises_insert ys p u found.rising place;
  same = IsPermutation-trans (names ++ u ∷ []) (u ∷ ys) (insert ys p u)
      (IsPermutation-trans (names ++ u ∷ []) (u ∷ names) (u ∷ ys) (IsPermutation-to_front names u) (IsPermutation-append_right (u ∷ []) names ys found.same)) (IsPermutation-insert ys p u);
}

pub found_alike : (names ys : List ℕ) (u : ℕ) → AreFound names ys → is_among names u ≡ is_among ys u
found_alike names ys u found = list_any-IsPermutation (λ w. w == u) names ys found.same
