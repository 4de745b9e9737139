-- Sets of values, ascending: which values they have, and that two sets with the same values are one. `Combined`,
-- `Rests`, and the crates `node_rules` and `node_view` stand on it.
use Rattle.std.proofs.Common.{◌≡◌, ℕ, ◌+◌, ◌-◌, ◌≤◌, ◌<◌, Bool, true, false, not, ◌&&◌, ◌||◌, List, [], ◌∷◌, ◌++◌, length, length-take, take, get_or, if◌then◌else◌, filter, refl, sym, ◌∙◌, ap, ap₂, inl, inr, add-one, arith}
use Rattle.std.proofs.Math.Seq.{take-suc}
use Rattle.std.proofs.lemmas.List.{take_all}
use Rattle.std.proofs.lemmas.Bool.{cases_Bool, or_cases, or_left, and_parts, false≢true, true≢false}
use Rattle.std.proofs.lemmas.List.Folds.{list_any-append}
use Rattle.scp_types.specs.Nominations.{Ascending, same_value, with_value}
use Rattle.scp_types.specs.Votes.{has_value}
use Rattle.scp_spec.proofs.Sets.Tests.{or_joined, or_past}
use Rattle.scp_spec.specs.Candidates.{all_with, as_set}
use Rattle.scp_spec.proofs.Ballots.Order.{less, less-total, less-asym, less-self}
use Rattle.scp_spec.proofs.Equality.Sameness.{same_value-true, same_value-refl}
use Rattle.scp_spec.proofs.Nominating.Ascending.{ascends_on, ascends_from, first_least, all-ascending, with-ascending}

-- ---- which values a set has
has_with : (x z : List ℕ) (ys : List (List ℕ)) → has_value (with_value x ys) z ≡ (same_value x z || has_value ys z)
unfolding with_value
has_with x z [] = refl
has_with x z (y ∷ ys) = go (less x y) (same_value y x) refl (has_with x z ys)
  where
    twice : (a b : Bool) → (a || b) ≡ (a || (a || b))
    twice true b = refl
    twice false b = refl

    go : (a b : Bool) → same_value y x ≡ b → has_value (with_value x ys) z ≡ (same_value x z || has_value ys z)
        → has_value (if a then x ∷ y ∷ ys else (if b then y ∷ ys else y ∷ with_value x ys)) z
        ≡ (same_value x z || (same_value y z || has_value ys z))
    go true b e ih = refl
    go false true e ih =
        twice (same_value y z) (has_value ys z)
        ∙ ap (λ n. same_value n z || (same_value y z || has_value ys z)) (same_value-true y x e)
    go false false e ih = ap (λ b. same_value y z || b) ih ∙ or_past (same_value y z) (same_value x z) (has_value ys z)

pub has_all : (ys xs : List (List ℕ)) (z : List ℕ) → has_value (all_with ys xs) z ≡ (has_value ys z || has_value xs z)
has_all [] xs z = refl
has_all (y ∷ ys) xs z =
    has_with y z (all_with ys xs) ∙ ap (λ b. same_value y z || b) (has_all ys xs z)
    ∙ or_joined (same_value y z) (has_value ys z) (has_value xs z)

pub has_append : (xs ys : List (List ℕ)) (z : List ℕ) → has_value (xs ++ ys) z ≡ (has_value xs z || has_value ys z)
has_append xs ys z = list_any-append (λ y. same_value y z) xs ys

pub has_filter : (p : List ℕ → Bool) (xs : List (List ℕ)) (z : List ℕ)
    → has_value (filter p xs) z ≡ (p z && has_value xs z)
has_filter p [] z = nothing (p z)
  where
    nothing : (a : Bool) → false ≡ (a && false)
    nothing true = refl
    nothing false = refl
has_filter p (x ∷ xs) z = go (p x) refl (has_filter p xs z)
  where
    kept : (a b c d : Bool) → (b ≡ true → a ≡ true) → d ≡ (a && c) → (b || d) ≡ (a && (b || c))
    kept true b c d f e = ap (λ n. b || n) e
    kept false true c d f e = absurd (false≢true (f refl))
    kept false false c d f e = e

    left : (a b c d : Bool) → (b ≡ true → a ≡ false) → d ≡ (a && c) → d ≡ (a && (b || c))
    left true true c d f e = absurd (true≢false (f refl))
    left true false c d f e = e
    left false b c d f e = e

    go : (a : Bool) → p x ≡ a → has_value (filter p xs) z ≡ (p z && has_value xs z)
        → has_value (if a then x ∷ filter p xs else filter p xs) z ≡ (p z && (same_value x z || has_value xs z))
    go true e ih =
        kept (p z) (same_value x z) (has_value xs z) (has_value (filter p xs) z)
        (λ h. ap p (sym (same_value-true x z h)) ∙ e) ih
    go false e ih =
        left (p z) (same_value x z) (has_value xs z) (has_value (filter p xs) z)
        (λ h. ap p (sym (same_value-true x z h)) ∙ e) ih

-- ---- sets with the same values are one
pub filter_ascending : (p : List ℕ → Bool) (xs : List (List ℕ)) → Ascending xs → Ascending (filter p xs)
filter_ascending p [] up = tt
filter_ascending p (x ∷ xs) up = go (p x) (filter_ascending p xs (ascends_on x xs up))
  where
    go : (a : Bool) → Ascending (filter p xs) → Ascending (if a then x ∷ filter p xs else filter p xs)
    go true ih =
        ascends_from x (filter p xs)
        (λ y h. first_least x xs up y (and_parts (p y) (has_value xs y) (sym (has_filter p xs y) ∙ h)).1) ih
    go false ih = ih

-- the first value of one is not below that of the other
not_below : (x y : List ℕ) (xs ys : List (List ℕ)) → Ascending (y ∷ ys) → has_value (y ∷ ys) x ≡ true → less x y ≡ false
not_below x y xs ys up h = elim (or_cases (same_value y x) (has_value ys x) h) [
  | inl e ↦ ap (λ n. less x n) (same_value-true y x e) ∙ less-self x
  | inr e ↦ less-asym y x (first_least y ys up x e)
]

has_first : (x : List ℕ) (xs : List (List ℕ)) → has_value (x ∷ xs) x ≡ true
has_first x xs = or_left (same_value x x) (has_value xs x) (same_value-refl x)

first_is : (x y : List ℕ) → less x y ≡ false → less y x ≡ false → x ≡ y
first_is x y h k = elim (cases_Bool (same_value x y)) [
  | inl e ↦ same_value-true x y e
  | inr e ↦ absurd (true≢false (sym (less-total x y h e) ∙ k))
]

-- nothing in the rest of a set is its first value
not_again : (x z : List ℕ) (xs : List (List ℕ)) → Ascending (x ∷ xs) → same_value x z ≡ true → has_value xs z ≡ false
not_again x z xs up h = elim (cases_Bool (has_value xs z)) [
  | inl e ↦ absurd
      (true≢false (sym (first_least x xs up z e) ∙ (ap (λ n. less x n) (sym (same_value-true x z h)) ∙ less-self x)))
  | inr e ↦ e
]

pub one_set : (xs ys : List (List ℕ)) → Ascending xs → Ascending ys
    → ((z : List ℕ) → has_value xs z ≡ has_value ys z) → xs ≡ ys
one_set [] [] up also same = refl
one_set [] (y ∷ ys) up also same = absurd (false≢true (same y ∙ has_first y ys))
one_set (x ∷ xs) [] up also same = absurd (false≢true (sym (same x) ∙ has_first x xs))
one_set (x ∷ xs) (y ∷ ys) up also same =
    let first : x ≡ y =
    first_is x y (not_below x y xs ys also (sym (same x) ∙ has_first x xs))
    (not_below y x ys xs up (same y ∙ has_first y ys)) in
    ap₂ (λ a bs. a ∷ bs) first
    (one_set xs ys (ascends_on x xs up) (ascends_on y ys also) (λ z. rest z first (same_value x z) refl))
  where
    rest : (z : List ℕ) → x ≡ y → (b : Bool) → same_value x z ≡ b → has_value xs z ≡ has_value ys z
    rest z first true e = not_again x z xs up e ∙ sym (not_again y z ys also (ap (λ n. same_value n z) (sym first) ∙ e))
    rest z first false e =
        let one : (same_value x z || has_value xs z) ≡ has_value xs z = ap (λ b. b || has_value xs z) e in
        let other : (same_value y z || has_value ys z) ≡ has_value ys z =
        ap (λ b. b || has_value ys z) (ap (λ n. same_value n z) (sym first) ∙ e) in
        sym one ∙ same z ∙ other

-- ---- what the rules need of sets
pub set_ascending : (xs : List (List ℕ)) → Ascending (as_set xs)
set_ascending xs = all-ascending xs [] tt

-- one more value, at the end of the list
pub set_and_one : (x : List ℕ) (xs : List (List ℕ)) → with_value x (as_set xs) ≡ as_set (xs ++ x ∷ [])
set_and_one x xs =
    one_set (with_value x (as_set xs)) (as_set (xs ++ x ∷ [])) (with-ascending x (as_set xs) (set_ascending xs))
    (set_ascending (xs ++ x ∷ [])) same
  where
    turned : (a b : Bool) → (a || (b || false)) ≡ ((b || (a || false)) || false)
    turned true true = refl
    turned true false = refl
    turned false true = refl
    turned false false = refl

    same : (z : List ℕ) → has_value (with_value x (as_set xs)) z ≡ has_value (as_set (xs ++ x ∷ [])) z
    same z =
        has_with x z (as_set xs) ∙ ap (λ b. same_value x z || b) (has_all xs [] z)
        ∙ turned (same_value x z) (has_value xs z)
        ∙ sym (has_all (xs ++ x ∷ []) [] z ∙ ap (λ b. b || false) (has_append xs (x ∷ []) z))

-- of some values and a set's own, those that pass and are new are found among the others alone
pub new_ones : (p : List ℕ → Bool) (rows voted old : List (List ℕ))
    → filter (λ x. not (has_value old x) && p x) (all_with voted (as_set rows))
    ≡ filter (λ x. not (has_value old x)) (as_set (filter p (rows ++ voted ++ old)))
new_ones p rows voted old =
    one_set (filter (λ x. not (has_value old x) && p x) (all_with voted (as_set rows)))
    (filter (λ x. not (has_value old x)) (as_set (filter p (rows ++ voted ++ old))))
    (filter_ascending (λ x. not (has_value old x) && p x) (all_with voted (as_set rows))
    (all-ascending voted (as_set rows) (set_ascending rows)))
    (filter_ascending (λ x. not (has_value old x)) (as_set (filter p (rows ++ voted ++ old)))
    (set_ascending (filter p (rows ++ voted ++ old))))
    same
  where
    turned : (p r v o : Bool) → ((not o && p) && (v || (r || false))) ≡ (not o && ((p && ((r || v) || o)) || false))
    turned true true true true = refl
    turned true true true false = refl
    turned true true false true = refl
    turned true true false false = refl
    turned true false true true = refl
    turned true false true false = refl
    turned true false false true = refl
    turned true false false false = refl
    turned false r v true = refl
    turned false r v false = refl

    same : (z : List ℕ)
        → has_value (filter (λ x. not (has_value old x) && p x) (all_with voted (as_set rows))) z
        ≡ has_value (filter (λ x. not (has_value old x)) (as_set (filter p (rows ++ voted ++ old)))) z
    same z =
        has_filter (λ x. not (has_value old x) && p x) (all_with voted (as_set rows)) z
        ∙ ap (λ b. (not (has_value old z) && p z) && b)
        (has_all voted (as_set rows) z ∙ ap (λ b. has_value voted z || b) (has_all rows [] z))
        ∙ turned (p z) (has_value rows z) (has_value voted z) (has_value old z)
        ∙ sym (has_filter (λ x. not (has_value old x)) (as_set (filter p (rows ++ voted ++ old))) z
        ∙ ap (λ b. not (has_value old z) && b) (has_all (filter p (rows ++ voted ++ old)) [] z
        ∙ ap (λ b. b || false) (has_filter p (rows ++ voted ++ old) z
        ∙ ap (λ b. p z && b)
        (has_append (rows ++ voted) old z ∙ ap (λ b. b || has_value old z) (has_append rows voted z)))))

-- ---- values added from the last back to the first
-- the later values first
pub all_with_append : (ys zs xs : List (List ℕ)) → all_with (ys ++ zs) xs ≡ all_with ys (all_with zs xs)
all_with_append [] zs xs = refl
all_with_append (y ∷ ys) zs xs = ap (with_value y) (all_with_append ys zs xs)

-- a list by its last element
pub split_last : {X : Type 0} (xs : List X) (x : X) → 0 < length xs → x ≡ get_or xs (length xs - 1) x
    → take (length xs - 1) xs ++ x ∷ [] ≡ xs
split_last xs x some is =
    let within : length xs - 1 < length xs = omega (arith, some) in
    let one : (length xs - 1) + 1 ≡ length xs = omega (arith, some) in
    ap (λ y. take (length xs - 1) xs ++ y ∷ []) is
    ∙ sym (rw add-one (take-suc xs (length xs - 1) x within))
    ∙ take_all (length xs - 1 + 1) xs (omega (arith, one))

-- the last value, and then all before it
pub value_before : (left more : List (List ℕ)) (x : List ℕ) (values after old : List (List ℕ)) → 0 < length left
    → x ≡ get_or left (length left - 1) x
    → length left ≤ length more → all_with left values ≡ all_with more old → after ≡ with_value x values
    → (length (take (length left - 1) left) ≤ length more)
    × (all_with (take (length left - 1) left) after ≡ all_with more old)
value_before left more x values after old some is within so_far inserted = (
  omega (arith, length-take (length left - 1) left, within),
  ap (all_with (take (length left - 1) left)) inserted
      ∙ sym (all_with_append (take (length left - 1) left) (x ∷ []) values)
      ∙ ap (λ (ys : List (List ℕ)). all_with ys values) (split_last left x some is)
      ∙ so_far,
)
