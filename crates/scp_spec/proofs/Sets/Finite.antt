-- Sets of finitely many names: what is among them, and what some set and every set mean. Most other folders and eight
-- crates stand on it.
use Rattle.std.proofs.Common.{◌≡◌, ℕ, Bool, true, false, not, ◌&&◌, ◌||◌, ◌==◌, List, [], ◌∷◌, ◌++◌, refl, sym, ◌∙◌, subst, inl, inr, ap}
use Rattle.std.specs.List.{list_all}
use Rattle.std.proofs.Math.Path.{fun_ext}
use Rattle.std.proofs.lemmas.Bool.{cases_Bool, or_cases, and_parts, and_from, or_left, or_right, eqb-true, true≢false, false≢true, false_from_ne_true, not-true, not_from_false, eq-eqb}
use Rattle.scp_spec.specs.Sets.{Names, none, also, among, both, within, some_set, every_set}

-- two tests that hold of each other are one
pub same_test : (a b : Bool) → (a ≡ true → b ≡ true) → (b ≡ true → a ≡ true) → a ≡ b
same_test true b f g = sym (f refl)
same_test false true f g = g refl
same_test false false f g = refl

pub all_at : (test : Names) (xs : List ℕ) (u : ℕ) → list_all test xs ≡ true → among xs u ≡ true → test u ≡ true
all_at test [] u a h = absurd (false≢true h)
all_at test (x ∷ xs) u a h =
    let p = and_parts (test x) (list_all test xs) a in
    elim (or_cases (x == u) (among xs u) h) [
      | inl e ↦ subst (λ y. test y ≡ true) (eqb-true x u e) p.0
      | inr e ↦ all_at test xs u p.1 e
    ]

pub among_head : (x : ℕ) (xs : List ℕ) → among (x ∷ xs) x ≡ true
among_head x xs = or_left (x == x) (among xs x) (eq-eqb x x refl)

pub among_tail : (x u : ℕ) (xs : List ℕ) → among xs u ≡ true → among (x ∷ xs) u ≡ true
among_tail x u xs h = or_right (x == u) (among xs u) h

pub among_left : (xs ys : List ℕ) (u : ℕ) → among xs u ≡ true → among (xs ++ ys) u ≡ true
among_left [] ys u h = absurd (false≢true h)
among_left (x ∷ xs) ys u h = elim (or_cases (x == u) (among xs u) h) [
  | inl e ↦ or_left (x == u) (among (xs ++ ys) u) e
  | inr e ↦ or_right (x == u) (among (xs ++ ys) u) (among_left xs ys u e)
]

pub among_right : (xs ys : List ℕ) (u : ℕ) → among ys u ≡ true → among (xs ++ ys) u ≡ true
among_right [] ys u h = h
among_right (x ∷ xs) ys u h = or_right (x == u) (among (xs ++ ys) u) (among_right xs ys u h)

pub all_from : (test : Names) (xs : List ℕ) → ((u : ℕ) → among xs u ≡ true → test u ≡ true) → list_all test xs ≡ true
all_from test [] f = refl
all_from test (x ∷ xs) f =
    and_from (test x) (list_all test xs) (f x (among_head x xs)) (all_from test xs (λ u h. f u (among_tail x u xs h)))

pub within-at : (xs : List ℕ) (set : Names) (u : ℕ) → within xs set ≡ true → among xs u ≡ true → set u ≡ true
within-at xs set u w h = all_at set xs u w h

-- a set that passes, of those names
pub some_set-found : (xs : List ℕ) (test : Names → Bool) → some_set xs test ≡ true
    → (set : Names) × (test set ≡ true) × ((u : ℕ) → set u ≡ true → among xs u ≡ true)
unfolding some_set
some_set-found [] test h = (none, h, λ u e. e)
some_set-found (x ∷ xs) test h =
    elim (or_cases (some_set xs test) (not (among xs x) && some_set xs (λ set. test (also x set))) h) [
      | inl e ↦ let r = some_set-found xs test e in (r.0, r.1, λ u i. or_right (x == u) (among xs u) (r.2 u i))
      | inr e ↦ let r =
          some_set-found xs (λ set. test (also x set))
          (and_parts (not (among xs x)) (some_set xs (λ set. test (also x set))) e).1 in (
            also x r.0,
            r.1,
            λ u i. elim (or_cases (x == u) (r.0 u) i) [
              | inl k ↦ or_left (x == u) (among xs u) k
              | inr k ↦ or_right (x == u) (among xs u) (r.2 u k)
            ],
          )
    ]

-- a set, cut to those names, that passes
pub some_set-from : (xs : List ℕ) (test : Names → Bool) (set : Names) → test (both (among xs) set) ≡ true
    → some_set xs test ≡ true
unfolding some_set
some_set-from [] test set h = h
some_set-from (x ∷ xs) test set h = elim (cases_Bool (set x)) [
  | inl i ↦ elim (cases_Bool (among xs x)) [
    | inl m ↦ or_left (some_set xs test) (not (among xs x) && some_set xs (λ U. test (also x U)))
        (some_set-from xs test set (subst (λ (U : Names). test U ≡ true) (fun_ext (λ u. again u m)) h))
    | inr n ↦ or_right (some_set xs test) (not (among xs x) && some_set xs (λ U. test (also x U)))
        (and_from (not (among xs x)) (some_set xs (λ U. test (also x U))) (not_from_false (among xs x) n)
        (some_set-from xs (λ U. test (also x U)) set
        (subst (λ (U : Names). test U ≡ true) (fun_ext (λ u. with_it u i)) h)))
  ]
  | inr o ↦ or_left (some_set xs test) (not (among xs x) && some_set xs (λ U. test (also x U)))
      (some_set-from xs test set (subst (λ (U : Names). test U ≡ true) (fun_ext (λ u. without_it u o)) h))
]
  where
    with_it : (u : ℕ) → set x ≡ true → both (among (x ∷ xs)) set u ≡ also x (both (among xs) set) u
    with_it u i = go (x == u) refl
      where
        go : (b : Bool) → (x == u) ≡ b → ((b || among xs u) && set u) ≡ (b || (among xs u && set u))
        go true e = subst (λ y. set y ≡ true) (eqb-true x u e) i
        go false e = refl

    again : (u : ℕ) → among xs x ≡ true → both (among (x ∷ xs)) set u ≡ both (among xs) set u
    again u m = go (x == u) refl
      where
        go : (b : Bool) → (x == u) ≡ b → ((b || among xs u) && set u) ≡ (among xs u && set u)
        go true e = ap (λ b. b && set u) (sym (ap (among xs) (sym (eqb-true x u e)) ∙ m))
        go false e = refl

    without_it : (u : ℕ) → set x ≡ false → both (among (x ∷ xs)) set u ≡ both (among xs) set u
    without_it u o = go (x == u) refl
      where
        go : (b : Bool) → (x == u) ≡ b → ((b || among xs u) && set u) ≡ (among xs u && set u)
        go true e = both_false (among xs u) (set u) (subst (λ y. set y ≡ false) (eqb-true x u e) o)
          where
            both_false : (a b : Bool) → b ≡ false → b ≡ (a && b)
            both_false true b f = refl
            both_false false b f = f
        go false e = refl

pub every_set-at : (xs : List ℕ) (test : Names → Bool) (set : Names) → every_set xs test ≡ true
    → test (both (among xs) set) ≡ true
unfolding every_set
every_set-at xs test set h = elim (cases_Bool (test (both (among xs) set))) [
  | inl e ↦ e
  | inr e ↦ absurd (true≢false (sym (some_set-from xs (λ U. not (test U)) set (not_from_false _ e)) ∙ not-true _ h))
]

pub every_set-from : (xs : List ℕ) (test : Names → Bool)
    → ((set : Names) → ((u : ℕ) → set u ≡ true → among xs u ≡ true) → test set ≡ true) → every_set xs test ≡ true
unfolding every_set
every_set-from xs test f =
    not_from_false _
    (false_from_ne_true _ (λ h. let r = some_set-found xs (λ U. not (test U)) h in
    true≢false (sym (f r.0 r.2) ∙ not-true _ r.1)))
