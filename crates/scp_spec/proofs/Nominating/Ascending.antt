-- A value put into an ascending list: it is there, all others stay, and the list ascends. `Sending` stands on it.
use Rattle.std.proofs.Common.{◌≡◌, ℕ, Bool, true, false, ◌||◌, List, [], ◌∷◌, if◌then◌else◌, refl, sym, ◌∙◌, ap, subst, inl, inr, ◌⊎◌}
use Rattle.std.proofs.lemmas.Bool.{cases_Bool, or_cases, or_left, or_right, false≢true, true≢false}
use Rattle.scp_types.specs.Nominations.{Ascending, with_value}
use Rattle.scp_types.specs.Orders.{bytes_cmp}
use Rattle.std.specs.Ordering.{is_lt}
use Rattle.scp_spec.specs.Candidates.{all_with}
use Rattle.scp_spec.proofs.Ballots.Order.{less, less-total, less-trans, less-asym, less-self, is_less}
use Rattle.scp_spec.proofs.Equality.Sameness.{same_value-true, same_value-refl}
use Rattle.scp_types.specs.Votes.{same_value, has_value}

-- a test that holds makes two values one
pub value-true : (z y : List ℕ) → same_value y z ≡ true → z ≡ y
value-true z y h = sym (same_value-true y z h)

pub ascends_on : (x : List ℕ) (xs : List (List ℕ)) → Ascending (x ∷ xs) → Ascending xs
ascends_on x [] h = tt
ascends_on x (y ∷ ys) h = h.1

-- the first value is below each other
pub first_least : (x : List ℕ) (xs : List (List ℕ)) → Ascending (x ∷ xs) → (z : List ℕ) → has_value xs z ≡ true
    → less x z ≡ true
first_least x [] h z i = absurd (false≢true i)
first_least x (y ∷ ys) h z i = elim (or_cases (same_value y z) (has_value ys z) i) [
  | inl e ↦ subst (λ n. less x n ≡ true) (sym (value-true z y e)) (ap is_lt h.0)
  | inr e ↦ less-trans x y z (ap is_lt h.0) (first_least y ys h.1 z e)
]

-- and with such a value before it a list ascends too
pub ascends_from : (x : List ℕ) (xs : List (List ℕ)) → ((z : List ℕ) → has_value xs z ≡ true → less x z ≡ true)
    → Ascending xs → Ascending (x ∷ xs)
ascends_from x [] f h = tt
ascends_from x (y ∷ ys) f h = (is_less (bytes_cmp x y) (f y (or_left (same_value y y) _ (same_value-refl y))), h)

pub with-has : (x : List ℕ) (xs : List (List ℕ)) → has_value (with_value x xs) x ≡ true
unfolding with_value
with-has x [] = or_left (same_value x x) false (same_value-refl x)
with-has x (y ∷ ys) = go (less x y) (same_value y x) refl (with-has x ys)
  where
    go : (a b : Bool) → (same_value y x) ≡ b → has_value (with_value x ys) x ≡ true
        → has_value (if a then x ∷ y ∷ ys else (if b then y ∷ ys else y ∷ with_value x ys)) x ≡ true
    go true b e ih = or_left (same_value x x) _ (same_value-refl x)
    go false true e ih = or_left (same_value y x) _ e
    go false false e ih = or_right (same_value y x) _ ih

pub with-kept : (x z : List ℕ) (xs : List (List ℕ)) → has_value xs z ≡ true → has_value (with_value x xs) z ≡ true
unfolding with_value
with-kept x z [] h = absurd (false≢true h)
with-kept x z (y ∷ ys) h = go (less x y) (same_value y x) (λ k. with-kept x z ys k)
  where
    go : (a b : Bool) → (has_value ys z ≡ true → has_value (with_value x ys) z ≡ true)
        → has_value (if a then x ∷ y ∷ ys else (if b then y ∷ ys else y ∷ with_value x ys)) z ≡ true
    go true b ih = or_right (same_value x z) _ h
    go false true ih = h
    go false false ih = elim (or_cases (same_value y z) (has_value ys z) h) [
      | inl e ↦ or_left (same_value y z) _ e
      | inr e ↦ or_right (same_value y z) _ (ih e)
    ]

pub with-from : (x z : List ℕ) (xs : List (List ℕ)) → has_value (with_value x xs) z ≡ true
    → (z ≡ x) ⊎ (has_value xs z ≡ true)
unfolding with_value
with-from x z [] h = elim (or_cases (same_value x z) false h) [
  | inl e ↦ inl (value-true z x e)
  | inr e ↦ absurd (false≢true e)
]
with-from x z (y ∷ ys) h = go (less x y) (same_value y x) h (λ k. with-from x z ys k)
  where
    go : (a b : Bool) → has_value (if a then x ∷ y ∷ ys else (if b then y ∷ ys else y ∷ with_value x ys)) z ≡ true
        → (has_value (with_value x ys) z ≡ true → (z ≡ x) ⊎ (has_value ys z ≡ true))
        → (z ≡ x) ⊎ ((same_value y z || has_value ys z) ≡ true)
    go true b k ih = elim (or_cases (same_value x z) (has_value (y ∷ ys) z) k) [
      | inl e ↦ inl (value-true z x e)
      | inr e ↦ inr e
    ]
    go false true k ih = inr k
    go false false k ih = elim (or_cases (same_value y z) (has_value (with_value x ys) z) k) [
      | inl e ↦ inr (or_left (same_value y z) (has_value ys z) e)
      | inr e ↦ elim (ih e) [
        | inl j ↦ inl j
        | inr j ↦ inr (or_right (same_value y z) (has_value ys z) j)
      ]
    ]

more : (a b : List ℕ) → less a b ≡ false → same_value b a ≡ false → less b a ≡ true
more a b h k = less-total a b h (elim (cases_Bool (same_value a b)) [
  | inl e ↦ absurd
      (true≢false (sym (subst (λ c. same_value c a ≡ true) (same_value-true a b e) (same_value-refl a)) ∙ k))
  | inr e ↦ e
])

pub with-ascending : (x : List ℕ) (xs : List (List ℕ)) → Ascending xs → Ascending (with_value x xs)
unfolding with_value
with-ascending x [] h = tt
with-ascending x (y ∷ ys) h = go (less x y) (same_value y x) refl refl (with-ascending x ys (ascends_on y ys h))
  where
    go : (a b : Bool) → less x y ≡ a → (same_value y x) ≡ b → Ascending (with_value x ys)
        → Ascending (if a then x ∷ y ∷ ys else (if b then y ∷ ys else y ∷ with_value x ys))
    go true b e k ih = (is_less (bytes_cmp x y) e, h)
    go false true e k ih = h
    go false false e k ih =
        ascends_from y (with_value x ys)
        (λ z i. elim (with-from x z ys i) [
          | inl j ↦ subst (λ n. less y n ≡ true) (sym j) (more x y e k)
          | inr j ↦ first_least y ys h z j
        ])
        ih

with-same : (x : List ℕ) (xs : List (List ℕ)) → Ascending xs → has_value xs x ≡ true → with_value x xs ≡ xs
unfolding with_value
with-same x [] h i = absurd (false≢true i)
with-same x (y ∷ ys) h i = go (less x y) (same_value y x) refl refl (λ j. with-same x ys (ascends_on y ys h) j)
  where
    clash : (a b : List ℕ) → less a b ≡ true → less b a ≡ true → ⊥
    clash a b h k = true≢false (sym k ∙ less-asym a b h)

    clash_eq : (a b : List ℕ) → less a b ≡ true → same_value b a ≡ true → ⊥
    clash_eq a b h k = true≢false (sym (ap (λ c. less c b) (same_value-true b a k) ∙ h) ∙ less-self b)

    go : (a b : Bool) → less x y ≡ a → (same_value y x) ≡ b → (has_value ys x ≡ true → with_value x ys ≡ ys)
        → (if a then x ∷ y ∷ ys else (if b then y ∷ ys else y ∷ with_value x ys)) ≡ y ∷ ys
    go true b e k ih = elim (or_cases (same_value y x) (has_value ys x) i) [
      | inl j ↦ absurd (clash_eq x y e j)
      | inr j ↦ absurd (clash x y e (first_least y ys h x j))
    ]
    go false true e k ih = refl
    go false false e k ih = elim (or_cases (same_value y x) (has_value ys x) i) [
      | inl j ↦ absurd (true≢false (sym j ∙ k))
      | inr j ↦ ap (λ zs. y ∷ zs) (ih j)
    ]

pub all-ascending : (ys xs : List (List ℕ)) → Ascending xs → Ascending (all_with ys xs)
all-ascending [] xs h = h
all-ascending (y ∷ ys) xs h = with-ascending y (all_with ys xs) (all-ascending ys xs h)

pub all-has : (ys xs : List (List ℕ)) (z : List ℕ) → has_value ys z ≡ true → has_value (all_with ys xs) z ≡ true
all-has [] xs z h = absurd (false≢true h)
all-has (y ∷ ys) xs z h = elim (or_cases (same_value y z) (has_value ys z) h) [
  | inl e ↦ subst (λ n. has_value (with_value y (all_with ys xs)) n ≡ true) (sym (value-true z y e))
      (with-has y (all_with ys xs))
  | inr e ↦ with-kept y z (all_with ys xs) (all-has ys xs z e)
]

pub all-same : (ys xs : List (List ℕ)) → Ascending xs → ((z : List ℕ) → has_value ys z ≡ true → has_value xs z ≡ true)
    → all_with ys xs ≡ xs
all-same [] xs h f = refl
all-same (y ∷ ys) xs h f =
    ap (with_value y) (all-same ys xs h (λ z i. f z (or_right (same_value y z) (has_value ys z) i)))
    ∙ with-same y xs h (f y (or_left (same_value y y) (has_value ys y) (same_value-refl y)))
