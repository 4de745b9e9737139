-- What stands at the place of a key, and changing it there.
use Rattle.std.proofs.Common.{◌≡◌, ℕ, zero, suc, ◌<◌, Bool, true, false, not, ◌||◌, ◌==◌, length, get_or, set, List, [], ◌∷◌, map, slice_get, Option, Some, None, option_map, if◌then◌else◌, refl, sym, ◌∙◌, ap, subst, arith}
use Rattle.std.specs.List.{list_any}
use Rattle.std.proofs.lemmas.Bool.{false≢true, and_parts, eqb-true}
use Rattle.std.proofs.lemmas.Bool.Decides.{nat_tests}
use Rattle.scp_types.specs.Trees.{all_differ}
use Rattle.host_config.specs.Configs.{index_in}
use Rattle.host_network.specs.Changes.{IsChangedAt, changed_at}
use Rattle.host_network.specs.Keyed.{at_key}
use Rattle.scp_types.proofs.Bools.{not_is}

-- a number that is the one and not the other
pub another : (a w u : ℕ) → (a == w) ≡ false → (a == u) ≡ true → (w == u) ≡ false
another a w u h k = grind (nat_tests, arith, h, k)

pub at-index : {X Y : Type 0} (key : X → ℕ) (val : X → Y) (xs : List X) (u k : ℕ) → index_in (map key xs) u ≡ Some k → at_key key val xs u ≡ option_map val (slice_get xs k)
at-index key val [] u k h = cc
at-index {X} {Y} key val (x ∷ xs) u k h = go (key x == u) (index_in (map key xs) u) (λ j e. at-index key val xs u j e) refl h
  where
    go : (b : Bool) (o : Option ℕ) → ((j : ℕ) → index_in (map key xs) u ≡ Some j → at_key key val xs u ≡ option_map val (slice_get xs j)) → index_in (map key xs) u ≡ o → (if b then Some 0 else option_map suc o) ≡ Some k → (if b then Some (val x) else at_key key val xs u) ≡ option_map val (slice_get (x ∷ xs) k)
    go true o ih e q = let z : 0 ≡ k = cc in ap (λ n. option_map val (slice_get (x ∷ xs) n)) z
    go false None ih e q = absurd (cc)
    go false (Some j) ih e q = let z : suc j ≡ k = cc in ih j e ∙ ap (λ n. option_map val (slice_get (x ∷ xs) n)) z

pub at-none : {X Y : Type 0} (key : X → ℕ) (val : X → Y) (xs : List X) (u : ℕ) → index_in (map key xs) u ≡ None → at_key key val xs u ≡ None
at-none key val [] u h = refl
at-none {X} {Y} key val (x ∷ xs) u h = go (key x == u) (index_in (map key xs) u) (λ e. at-none key val xs u e) refl h
  where
    go : (b : Bool) (o : Option ℕ) → (index_in (map key xs) u ≡ None → at_key key val xs u ≡ None) → index_in (map key xs) u ≡ o → (if b then Some 0 else option_map suc o) ≡ None → (if b then Some (val x) else at_key key val xs u) ≡ None
    go true o ih e q = absurd (cc)
    go false None ih e q = ih e
    go false (Some j) ih e q = absurd (cc)

-- ---- lengths
pub mapped-length : {X Y : Type 0} (f : X → Y) (xs : List X) → length (map f xs) ≡ length xs
mapped-length f [] = refl
mapped-length f (x ∷ xs) = ap suc (mapped-length f xs)

-- there is something there
pub index-within : (xs : List ℕ) (u k : ℕ) → index_in xs u ≡ Some k → k < length xs
index-within [] u k h = absurd (cc)
index-within (x ∷ xs) u k h = go (x == u) (index_in xs u) (λ j e. index-within xs u j e) refl h
  where
    go : (b : Bool) (o : Option ℕ) → ((j : ℕ) → index_in xs u ≡ Some j → j < length xs) → index_in xs u ≡ o → (if b then Some 0 else option_map suc o) ≡ Some k → k < suc (length xs)
    go true o ih e q = let z : 0 ≡ k = cc in omega (arith, z)
    go false None ih e q = absurd (cc)
    go false (Some j) ih e q = let z : suc j ≡ k = cc in let l = ih j e in omega (arith, z, l)

-- nothing else has the key
others-stay : {X : Type 0} (key : X → ℕ) (f : X → X) (xs : List X) (u : ℕ) → list_any (λ w. w == u) (map key xs) ≡ false → map (λ x. if key x == u then f x else x) xs ≡ xs
others-stay key f [] u h = refl
others-stay {X} key f (x ∷ xs) u h = go (key x == u) (list_any (λ w. w == u) (map key xs)) (λ e. others-stay key f xs u e) refl h
  where
    go : (b c : Bool) → (list_any (λ w. w == u) (map key xs) ≡ false → map (λ x. if key x == u then f x else x) xs ≡ xs) → list_any (λ w. w == u) (map key xs) ≡ c → (b || c) ≡ false → (if b then f x else x) ∷ map (λ x. if key x == u then f x else x) xs ≡ x ∷ xs
    go true c ih e q = absurd (false≢true (sym q))
    go false c ih e q = ap (λ ys. x ∷ ys) (ih (e ∙ q))

-- changing at the place of a key is changing what has the key
pub changed-map : {X : Type 0} (key : X → ℕ) (f : X → X) (xs : List X) (u k : ℕ) → index_in (map key xs) u ≡ Some k → all_differ (map key xs) ≡ true → changed_at k f xs ≡ map (λ x. if key x == u then f x else x) xs
changed-map key f [] u k h d = refl
changed-map {X} key f (x ∷ xs) u k h d = go (key x == u) (index_in (map key xs) u) (λ j e d. changed-map key f xs u j e d) refl refl h
  where
    parts : (not (list_any (λ w. w == key x) (map key xs)) ≡ true) × (all_differ (map key xs) ≡ true)
    parts = and_parts (not (list_any (λ w. w == key x) (map key xs))) (all_differ (map key xs)) d

    go : (b : Bool) (o : Option ℕ) → ((j : ℕ) → index_in (map key xs) u ≡ Some j → all_differ (map key xs) ≡ true → changed_at j f xs ≡ map (λ x. if key x == u then f x else x) xs) → (key x == u) ≡ b → index_in (map key xs) u ≡ o → (if b then Some 0 else option_map suc o) ≡ Some k → changed_at k f (x ∷ xs) ≡ (if b then f x else x) ∷ map (λ x. if key x == u then f x else x) xs
    go true o ih y e q =
        let z : 0 ≡ k = cc in
        let none = not_is (list_any (λ w. w == key x) (map key xs)) parts.0 in
        ap (λ n. changed_at n f (x ∷ xs)) (sym z) ∙ ap (λ ys. f x ∷ ys) (sym (others-stay key f xs u (ap (λ v. list_any (λ w. w == v) (map key xs)) (sym (eqb-true (key x) u y)) ∙ none)))
    go false None ih y e q = absurd (cc)
    go false (Some j) ih y e q = let z : suc j ≡ k = cc in ap (λ n. changed_at n f (x ∷ xs)) (sym z) ∙ ap (λ ys. x ∷ ys) (ih j e parts.1)

-- writing what is related to what stands there
pub changed-set : {X : Type 0} (R : X → X → Type 0) (xs : List X) (k : ℕ) (x y : X) → k < length xs → x ≡ get_or xs k x → R x y → IsChangedAt R k xs (set xs k y)
changed-set R [] k x y l is r = absurd (omega (arith, l))
changed-set R (z ∷ zs) zero x y l is r = (subst (λ w. R w y) is r, refl)
changed-set R (z ∷ zs) (suc k) x y l is r = (refl, changed-set R zs k x y (omega (arith, l)) is r)
