-- What a list contains: its head, its tail, and what a test of the whole list says of each. Most other folders, and the
-- crates `host_closure`, `node_core`, `host_compare` and `node_view` stand on it.
use Rattle.std.proofs.Common.{◌≡◌, ℕ, zero, suc, ◌<◌, Bool, true, ◌⊎◌, List, [], ◌∷◌, length, get_or, refl, subst, inl, inr, arith}
use Rattle.std.specs.List.{list_all, Contains}
use Rattle.std.proofs.lemmas.Bool.{and_parts, and_from}

pub contains_head : {X : Type 0} (x : X) (xs : List X) → Contains (x ∷ xs) x
contains_head x xs = (0, omega arith, refl)

pub contains_tail : {X : Type 0} (x y : X) (xs : List X) → Contains xs x → Contains (y ∷ xs) x
contains_tail x y xs h = (suc h.0, omega arith, h.2)

-- what all elements pass, each does
pub all_contained : {X : Type 0} (test : X → Bool) (xs : List X) (x : X) → list_all test xs ≡ true → Contains xs x
    → test x ≡ true
all_contained {X} test xs x h c = go xs h c.0 c.1 c.2
  where
    go : (ys : List X) → list_all test ys ≡ true → (k : ℕ) → k < length ys → get_or ys k x ≡ x → test x ≡ true
    go [] a k l e = absurd (omega arith)
    go (y ∷ ys) a zero l e = subst (λ z. test z ≡ true) e (and_parts (test y) (list_all test ys) a).0
    go (y ∷ ys) a (suc k) l e = go ys (and_parts (test y) (list_all test ys) a).1 k (omega arith) e

pub all_from_contained : {X : Type 0} (test : X → Bool) (xs : List X) → ((x : X) → Contains xs x → test x ≡ true)
    → list_all test xs ≡ true
all_from_contained test [] f = refl
all_from_contained test (x ∷ xs) f =
    and_from (test x) (list_all test xs) (f x (contains_head x xs))
    (all_from_contained test xs (λ y c. f y (contains_tail y x xs c)))

pub contained_cases : {X : Type 0} (x y : X) (xs : List X) → Contains (y ∷ xs) x → (y ≡ x) ⊎ Contains xs x
contained_cases x y xs (zero, l, e) = inl e
contained_cases x y xs (suc k, l, e) = inr (k, omega arith, e)
