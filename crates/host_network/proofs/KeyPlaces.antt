-- What a binary search by an ascending key answers, and the keys after a change.
use Rattle.std.proofs.Common.{◌≡◌, ℕ, suc, ◌+◌, ◌-◌, ◌<◌, ◌≤◌, length, get_or, set, map, take, drop, List, ◌∷◌, ◌++◌, Result, Ok, Err, sym, ◌∙◌, ap, ap₂, subst, arith}
use Rattle.std.specs.List.{insert, remove}
use Rattle.std.specs.List.Sorted.{IsBinarySearchResult, IsNonDecreasingBy, IsSearchInRange}
use Rattle.std.specs.Ordering.{nat_cmp, ordering_index}
use Rattle.std.proofs.Math.Seq.{map-set_same}
use Rattle.std.proofs.lemmas.Bool.Decides.{nat_tests}
use Rattle.std.proofs.lemmas.Cmp.{ranked}
use Rattle.std.proofs.lemmas.List.{drop-map, get_or-map, get_or_default, length-map, map-append, take-map}
use Rattle.std.proofs.lemmas.List.Edits.{get_or-insert_above, get_or-insert_at, get_or-insert_below, get_or-remove_above, get_or-remove_below, length-insert, length-remove}
use Rattle.std.proofs.lemmas.List.Sorted.{IsNonDecreasingBy-from_default}
use Rattle.scp_spec.specs.Sets.{IsAscending}
use Rattle.host_config.proofs.Names.{index-first, index-nowhere}
use Rattle.host_network.specs.Keyed.{IsKeyPlace}

-- a key among ascending ones is found by its place, or lies between two of them
module _ (xs : List ℕ) (up : IsAscending xs) (x at : ℕ) (inside : at ≤ length xs) (below : (k : ℕ) → k < at → get_or xs k 0 < x) (above : (k : ℕ) → at ≤ k → k < length xs → x < get_or xs k 0) where
  ascending-insert : IsAscending (insert xs at x)
  ascending-insert i j d l m =
      let longer = length-insert xs at x inside in
      let under : (k : ℕ) → k < at → get_or (insert xs at x) k d ≡ get_or xs k 0 = λ k h. get_or-insert_below xs at x d k h inside ∙ get_or_default xs k d 0 (omega (arith, h, inside)) in
      let here : (k : ℕ) → k ≡ at → get_or (insert xs at x) k d ≡ x = λ k h. rw h (get_or-insert_at xs at x d inside) in
      let over : (k : ℕ) → at < k → k < length xs + 1 → get_or (insert xs at x) k d ≡ get_or xs (k - 1) 0 =
      λ k h q. subst (λ n. get_or (insert xs at x) n d ≡ get_or xs (k - 1) 0) {x = k - 1 + 1} (omega (arith, h)) (get_or-insert_above xs at x d (k - 1) (omega (arith, h)) inside ∙ get_or_default xs (k - 1) d 0 (omega (arith, h, q))) in
      grind (arith, under i, here i, over i, under j, here j, over j, up i j 0, up i (j - 1) 0, up (i - 1) (j - 1) 0, below i, above (j - 1))

-- what a binary search answers
module _ {X : Type 0} (key : X → ℕ) (none : X) (xs : List X) (u : ℕ) (up : IsAscending (map key xs)) where
  keys-at : (k : ℕ) → k < length xs → get_or (map key xs) k 0 ≡ key (get_or xs k none)
  keys-at k l = get_or-map key xs k none 0 l

  answers-rise : IsNonDecreasingBy (λ (x : X). ordering_index (nat_cmp (key x) u)) xs
  answers-rise = IsNonDecreasingBy-from_default (λ (x : X). ordering_index (nat_cmp (key x) u)) xs none (λ i j l m.
      let a = keys-at i (omega (arith, l, m)) in
      let b = keys-at j m in
      let q : j < length (map key xs) = rw (length-map xs key) m in
      let rise : get_or (map key xs) i 0 ≤ get_or (map key xs) j 0 = grind (arith, up i j 0, λ (same : i ≡ j). ap (λ k. get_or (map key xs) k 0) same) in
      grind (arith, nat_tests))

  pub key-place : (r : Result ℕ ℕ) → IsSearchInRange r (length xs)
      → IsBinarySearchResult (λ (x : X). nat_cmp (key x) u) xs r → IsKeyPlace key xs u r
  key-place (Ok at) inside same =
      let within : at < length (map key xs) = rw (length-map xs key) inside in
      let is : get_or (map key xs) at 0 ≡ u = keys-at at inside ∙ ranked (key (get_or xs at none)) u _ (sym (same none)) in
      (index-first (map key xs) u at within is (λ j l. subst (λ n. get_or (map key xs) j 0 < n) is (up j at 0 l within)), inside)
  key-place (Err at) inside parted =
      let apart = parted answers-rise in
      let length-is = length-map xs key in
      let below : (k : ℕ) → k < at → get_or (map key xs) k 0 < u = λ k l. rw (keys-at k (omega (arith, l, inside))) (ranked _ u _ (sym (apart.0 k none (omega arith) l))) in
      let above : (k : ℕ) → at ≤ k → k < length (map key xs) → u < get_or (map key xs) k 0 = λ k l m. let n : k < length xs = subst (λ z. k < z) length-is m in rw (keys-at k n) (ranked _ u _ (sym (apart.1 k none l n))) in (
        index-nowhere (map key xs) u at (λ k l m. below k l) above,
        inside,
        ascending-insert (map key xs) up u at (subst (λ z. at ≤ z) (sym length-is) inside) below above,
      )

-- ---- the keys after a change
pub keys-set : {X : Type 0} (key : X → ℕ) (xs : List X) (at : ℕ) (x y : X) → x ≡ get_or xs at x → key y ≡ key x
    → IsAscending (map key xs) → IsAscending (map key (set xs at y))
keys-set key xs at x y is same up = subst IsAscending (sym (map-set_same key xs at y x (same ∙ ap key is))) up

pub keys-insert : {X : Type 0} (key : X → ℕ) (xs : List X) (at : ℕ) (y : X)
    → IsAscending (insert (map key xs) at (key y)) → IsAscending (map key (insert xs at y))
keys-insert key xs at y up =
    let same : map key (insert xs at y) ≡ insert (map key xs) at (key y) =
    map-append key (take at xs) (y ∷ drop at xs)
    ∙ ap₂ {C = List ℕ} (λ (a b : List ℕ). a ++ key y ∷ b) (sym (take-map key at xs)) (sym (drop-map key at xs)) in
    subst IsAscending (sym same) up

-- what stays when one is taken out ascends
ascending-remove : (xs : List ℕ) (at : ℕ) → at < length xs → IsAscending xs → IsAscending (remove xs at)
ascending-remove xs at inside up i j d l m =
    let shorter = length-remove xs at inside in
    let under : (k : ℕ) → k < at → get_or (remove xs at) k d ≡ get_or xs k d = λ k h. get_or-remove_below xs at d k h inside in
    let over : (k : ℕ) → at ≤ k → get_or (remove xs at) k d ≡ get_or xs (k + 1) d = λ k h. get_or-remove_above xs at d k h inside in
    grind (arith, under i, over i, under j, over j, up i j d, up i (j + 1) d, up (i + 1) (j + 1) d)

pub map-remove : {X Y : Type 0} (f : X → Y) (xs : List X) (k : ℕ) → map f (remove xs k) ≡ remove (map f xs) k
map-remove f xs k = map-append f (take k xs) (drop (suc k) xs) ∙ ap₂ (λ ys zs. ys ++ zs) (sym (take-map f k xs)) (sym (drop-map f (suc k) xs))

pub keys-remove : {X : Type 0} (key : X → ℕ) (xs : List X) (at : ℕ) → at < length xs → IsAscending (map key xs)
    → IsAscending (map key (remove xs at))
keys-remove key xs at inside up = subst IsAscending (sym (map-remove key xs at)) (ascending-remove (map key xs) at (subst (λ n. at < n) (sym (length-map xs key)) inside) up)
