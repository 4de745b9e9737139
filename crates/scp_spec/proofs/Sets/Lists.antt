-- Filters, tests and fronts of lists. Most other folders and the crate `host_closure` stand on it.
use Rattle.std.proofs.Common.{◌≡◌, Bool, true, false, cond, Some, List, [], ◌∷◌, filter, find, refl, sym, ◌∙◌, ap, ◌++◌, ℕ, zero, suc, ◌<◌, slice_get, take, arith}
use Rattle.std.specs.List.{list_all}
use Rattle.std.proofs.lemmas.List.Folds.{list_all-append}
use Rattle.std.proofs.lemmas.Bool.{and_parts, and_from, false≢true}

pub filter_filter : {X : Type 0} (p q : X → Bool) → ((x : X) → q x ≡ true → p x ≡ true) → (xs : List X)
    → filter q (filter p xs) ≡ filter q xs
filter_filter p q f [] = refl
filter_filter {X} p q f (x ∷ xs) = go (p x) (q x) refl refl (filter_filter p q f xs)
  where
    go : (a b : Bool) → p x ≡ a → q x ≡ b → filter q (filter p xs) ≡ filter q xs
        → filter q (cond a (x ∷ filter p xs) (filter p xs)) ≡ cond b (x ∷ filter q xs) (filter q xs)
    go true true e h ih = rw h (ap (λ ys. x ∷ ys) ih)
    go true false e h ih = rw h ih
    go false true e h ih = absurd (false≢true (sym e ∙ f x h))
    go false false e h ih = ih

pub all_weaker : {X : Type 0} (P Q : X → Bool) → ((x : X) → P x ≡ true → Q x ≡ true) → (xs : List X)
    → list_all P xs ≡ true → list_all Q xs ≡ true
all_weaker P Q f [] h = refl
all_weaker P Q f (x ∷ xs) h =
    let p = and_parts (P x) (list_all P xs) h in and_from (Q x) (list_all Q xs) (f x p.0) (all_weaker P Q f xs p.1)

pub all_filter : {X : Type 0} (P Q q : X → Bool) → ((x : X) → P x ≡ true → q x ≡ true → Q x ≡ true) → (xs : List X)
    → list_all P xs ≡ true → list_all Q (filter q xs) ≡ true
all_filter P Q q f [] h = refl
all_filter P Q q f (x ∷ xs) h =
    let p = and_parts (P x) (list_all P xs) h in go (q x) refl p.0 (all_filter P Q q f xs p.1)
  where
    go : (b : Bool) → q x ≡ b → P x ≡ true → list_all Q (filter q xs) ≡ true
        → list_all Q (cond b (x ∷ filter q xs) (filter q xs)) ≡ true
    go true e p ih = and_from (Q x) (list_all Q (filter q xs)) (f x p e) ih
    go false e p ih = ih

pub find_filter : {X : Type 0} (p q : X → Bool) → ((x : X) → q x ≡ true → p x ≡ true) → (xs : List X)
    → find q (filter p xs) ≡ find q xs
find_filter p q f [] = refl
find_filter {X} p q f (x ∷ xs) = go (p x) (q x) refl refl (find_filter p q f xs)
  where
    go : (a b : Bool) → p x ≡ a → q x ≡ b → find q (filter p xs) ≡ find q xs
        → find q (cond a (x ∷ filter p xs) (filter p xs)) ≡ cond b (Some x) (find q xs)
    go true true e h ih = rw h
    go true false e h ih = rw h ih
    go false true e h ih = absurd (false≢true (sym e ∙ f x h))
    go false false e h ih = ih

pub filter_swap : {X : Type 0} (p q : X → Bool) (xs : List X) → filter p (filter q xs) ≡ filter q (filter p xs)
filter_swap p q [] = refl
filter_swap {X} p q (x ∷ xs) = go (p x) (q x) refl refl (filter_swap p q xs)
  where
    go : (a b : Bool) → p x ≡ a → q x ≡ b → filter p (filter q xs) ≡ filter q (filter p xs)
        → filter p (cond b (x ∷ filter q xs) (filter q xs)) ≡ filter q (cond a (x ∷ filter p xs) (filter p xs))
    go true true e h ih = rw (e, h) (ap (λ ys. x ∷ ys) ih)
    go true false e h ih = rw h ih
    go false true e h ih = rw e ih
    go false false e h ih = ih

-- what all of two lists pass, all of each do, and back
pub all-left : {X : Type 0} (P : X → Bool) (xs ys : List X) → list_all P (xs ++ ys) ≡ true → list_all P xs ≡ true
all-left P xs ys h = (and_parts (list_all P xs) (list_all P ys) (sym (list_all-append P xs ys) ∙ h)).0

pub all-right : {X : Type 0} (P : X → Bool) (xs ys : List X) → list_all P (xs ++ ys) ≡ true → list_all P ys ≡ true
all-right P xs ys h = (and_parts (list_all P xs) (list_all P ys) (sym (list_all-append P xs ys) ∙ h)).1

pub all-append : {X : Type 0} (P : X → Bool) (xs ys : List X) → list_all P xs ≡ true → list_all P ys ≡ true
    → list_all P (xs ++ ys) ≡ true
all-append P xs ys h k = list_all-append P xs ys ∙ and_from (list_all P xs) (list_all P ys) h k

-- what stands in the front stands where it did
pub get_taken : {X : Type 0} (xs : List X) (k n : ℕ) → k < n → slice_get (take n xs) k ≡ slice_get xs k
get_taken xs k zero l = absurd (omega arith)
get_taken [] k (suc n) l = refl
get_taken (x ∷ xs) zero (suc n) l = refl
get_taken (x ∷ xs) (suc k) (suc n) l = get_taken xs k n (omega arith)
