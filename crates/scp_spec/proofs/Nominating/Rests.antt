-- Nomination is at rest after one pass. `Passes` stands on it.
use Rattle.std.proofs.Common.{◌≡◌, ℕ, zero, suc, ◌+◌, ◌-◌, ◌≤◌, ◌<◌, min, Bool, true, false, not, cond, nat_lt, nat_le, length, take, List, [], ◌∷◌, ◌++◌, Some, if◌then◌else◌, filter, flat_map, refl, sym, ◌∙◌, ap, subst, inl, inr, ◌⊎◌, arith, length-take}
use Rattle.std.proofs.lemmas.List.{take_all}
use Rattle.std.proofs.lemmas.Bool.{cases_Bool, or_cases, or_left, or_right, and_parts, and_from, false≢true, true≢false, not-true, not_from_false}
use Rattle.std.proofs.lemmas.Bool.Decides.{nat_tests}
use Rattle.scp_spec.proofs.Balloting.Tests.{backs_value, takes_value, Fair, quorum_own, quorum_more, blocking_more}
use Rattle.scp_types.specs.declared.statement.Statement.TheVariants.{Nominate}
use Rattle.scp_types.specs.declared.kind.Kind.TheVariants.{Nomination}
use Rattle.scp_spec.specs.Views.{Seen, accepted, confirmed, passes}
use Rattle.scp_types.specs.declared.state.Inputs.{Inputs}
use Rattle.scp_types.specs.Nominations.{Ascending, with_value}
use Rattle.scp_spec.specs.Candidates.{as_set, all_with, with_up_to_sixteen, values_by}
use Rattle.scp_spec.proofs.Nominating.Ascending.{ascends_on, ascends_from, first_least, with-has, with-kept, with-from, all-ascending, all-has, all-same, value-true}
use Rattle.scp_spec.proofs.Nominating.Lengths.{with-new, all-longer}
use Rattle.scp_spec.proofs.Nominating.Sets.{sources, echoes, new_voted, new_accepts, new_confirms, NominationRestsAt, rests-from}
use Rattle.scp_spec.proofs.Nominating.ValueSets.{filter_ascending, set_ascending}
use Rattle.scp_spec.proofs.Ballots.Order.{less, less-self}
use Rattle.scp_spec.proofs.Equality.Sameness.{same_value-refl}
use Rattle.scp_types.specs.Votes.{same_value, has_value}
use Rattle.scp_spec.proofs.Sets.Numbers.{up_to}
use Rattle.scp_spec.proofs.Sets.Tests.{first_holds}

value-left : (xs ys : List (List ℕ)) (u : List ℕ) → has_value xs u ≡ true → has_value (xs ++ ys) u ≡ true
value-left [] ys u h = absurd (false≢true h)
value-left (x ∷ xs) ys u h = elim (or_cases (same_value x u) (has_value xs u) h) [
  | inl e ↦ or_left (same_value x u) (has_value (xs ++ ys) u) e
  | inr e ↦ or_right (same_value x u) (has_value (xs ++ ys) u) (value-left xs ys u e)
]

set-has : (xs : List (List ℕ)) (z : List ℕ) → has_value xs z ≡ true → has_value (as_set xs) z ≡ true
set-has [] z h = h
set-has (x ∷ xs) z h = elim (or_cases (same_value x z) (has_value xs z) h) [
  | inl e ↦ subst (λ n. has_value (with_value x (as_set xs)) n ≡ true) (sym (value-true z x e)) (with-has x (as_set xs))
  | inr e ↦ with-kept x z (as_set xs) (set-has xs z e)
]

set-from : (xs : List (List ℕ)) (z : List ℕ) → has_value (as_set xs) z ≡ true → has_value xs z ≡ true
set-from [] z h = h
set-from (x ∷ xs) z h = elim (with-from x z (as_set xs) h) [
  | inl e ↦ or_left (same_value x z) (has_value xs z) (subst (λ n. (same_value x n) ≡ true) (sym e) (same_value-refl x))
  | inr e ↦ or_right (same_value x z) (has_value xs z) (set-from xs z e)
]

among-filter : (p : List ℕ → Bool) (xs : List (List ℕ)) (z : List ℕ) → has_value xs z ≡ true → p z ≡ true
    → has_value (filter p xs) z ≡ true
among-filter p [] z h k = h
among-filter p (x ∷ xs) z h k = go (p x) refl (λ j. among-filter p xs z j k)
  where
    go : (b : Bool) → p x ≡ b → (has_value xs z ≡ true → has_value (filter p xs) z ≡ true)
        → has_value (cond b (x ∷ filter p xs) (filter p xs)) z ≡ true
    go true e ih = elim (or_cases (same_value x z) (has_value xs z) h) [
      | inl j ↦ or_left (same_value x z) _ j
      | inr j ↦ or_right (same_value x z) _ (ih j)
    ]
    go false e ih = elim (or_cases (same_value x z) (has_value xs z) h) [
      | inl j ↦ absurd (true≢false (sym k ∙ (ap p (value-true z x j) ∙ e)))
      | inr j ↦ ih j
    ]

filter-has_value : (p : List ℕ → Bool) (xs : List (List ℕ)) (z : List ℕ) → has_value (filter p xs) z ≡ true
    → (has_value xs z ≡ true) × (p z ≡ true)
filter-has_value p [] z h = absurd (false≢true h)
filter-has_value p (x ∷ xs) z h = go (p x) refl h (λ j. filter-has_value p xs z j)
  where
    go : (b : Bool) → p x ≡ b → has_value (cond b (x ∷ filter p xs) (filter p xs)) z ≡ true
        → (has_value (filter p xs) z ≡ true → (has_value xs z ≡ true) × (p z ≡ true))
        → (has_value (x ∷ xs) z ≡ true) × (p z ≡ true)
    go true e k ih = elim (or_cases (same_value x z) (has_value (filter p xs) z) k) [
      | inl j ↦ (or_left (same_value x z) _ j, ap p (value-true z x j) ∙ e)
      | inr j ↦ (or_right (same_value x z) _ (ih j).0, (ih j).1)
    ]
    go false e k ih = (or_right (same_value x z) _ (ih k).0, (ih k).1)

take-has_value : (k : ℕ) (xs : List (List ℕ)) (z : List ℕ) → has_value (take k xs) z ≡ true → has_value xs z ≡ true
take-has_value zero xs z h = absurd (false≢true h)
take-has_value (suc k) [] z h = h
take-has_value (suc k) (x ∷ xs) z h = elim (or_cases (same_value x z) (has_value (take k xs) z) h) [
  | inl e ↦ or_left (same_value x z) _ e
  | inr e ↦ or_right (same_value x z) _ (take-has_value k xs z e)
]

take-ascending : (k : ℕ) (xs : List (List ℕ)) → Ascending xs → Ascending (take k xs)
take-ascending zero xs h = tt
take-ascending (suc k) [] h = tt
take-ascending (suc k) (x ∷ xs) h =
    ascends_from x (take k xs) (λ y i. first_least x xs h y (take-has_value k xs y i))
    (take-ascending k xs (ascends_on x xs h))

all-from : (ys xs : List (List ℕ)) (z : List ℕ) → has_value (all_with ys xs) z ≡ true
    → (has_value ys z ≡ true) ⊎ (has_value xs z ≡ true)
all-from [] xs z h = inr h
all-from (y ∷ ys) xs z h = elim (with-from y z (all_with ys xs) h) [
  | inl e ↦ inl
      (or_left (same_value y z) (has_value ys z) (subst (λ n. (same_value y n) ≡ true) (sym e) (same_value-refl y)))
  | inr e ↦ elim (all-from ys xs z e) [
    | inl j ↦ inl (or_right (same_value y z) (has_value ys z) j)
    | inr j ↦ inr j
  ]
]

all-kept : (ys xs : List (List ℕ)) (z : List ℕ) → has_value xs z ≡ true → has_value (all_with ys xs) z ≡ true
all-kept [] xs z h = h
all-kept (y ∷ ys) xs z h = with-kept y z (all_with ys xs) (all-kept ys xs z h)

-- new ones in order are all added
all-count : (ys xs : List (List ℕ)) → Ascending ys → ((z : List ℕ) → has_value ys z ≡ true → has_value xs z ≡ false)
    → length xs + length ys ≤ length (all_with ys xs)
all-count [] xs h f = omega arith
all-count (y ∷ ys) xs h f =
    let ih : length xs + length ys ≤ length (all_with ys xs) =
    all-count ys xs (ascends_on y ys h) (λ z i. f z (or_right (same_value y z) (has_value ys z) i)) in
    let fresh : has_value (all_with ys xs) y ≡ false = new (has_value (all_with ys xs) y) refl in
    let up : length (all_with ys xs) < length (with_value y (all_with ys xs)) = with-new y (all_with ys xs) fresh in
    omega (arith, ih, up)
  where
    not_less : (a : List ℕ) → less a a ≡ true → ⊥
    not_less a h = true≢false (sym h ∙ less-self a)

    new : (b : Bool) → has_value (all_with ys xs) y ≡ b → has_value (all_with ys xs) y ≡ false
    new false e = e
    new true e = elim (all-from ys xs y e) [
      | inl i ↦ absurd (not_less y (first_least y ys h y i))
      | inr i ↦ absurd (true≢false (sym i ∙ f y (or_left (same_value y y) (has_value ys y) (same_value-refl y))))
    ]

-- filled is full, or holds all that was new
with_up_to_sixteen-full : (old new : List (List ℕ))
    → (16 ≤ length (with_up_to_sixteen old new))
    ⊎ ((z : List ℕ) → has_value new z ≡ true → has_value (with_up_to_sixteen old new) z ≡ true)
unfolding with_up_to_sixteen
with_up_to_sixteen-full old new = elim (cases_Bool (nat_le (length S) (16 - length old))) [
  | inl e ↦ inr
      (λ z i. subst (λ D. has_value (all_with D old) z ≡ true)
      (sym (take_all (16 - length old) S (up_to (length S) (16 - length old) e))) (elim (cases_Bool (has_value old z)) [
        | inl j ↦ all-kept S old z j
        | inr j ↦ all-has S old z
            (among-filter (λ x. not (has_value old x)) (as_set new) z (set-has new z i)
            (not_from_false (has_value old z) j))
      ]))
  | inr e ↦ inl
      (full (length old) (length S) (length (take (16 - length old) S))
      (length (all_with (take (16 - length old) S) old)) e (length-take (16 - length old) S)
      (all-count (take (16 - length old) S) old
      (take-ascending (16 - length old) S
      (filter_ascending (λ x. not (has_value old x)) (as_set new) (set_ascending new)))
      (λ z i. not-true (has_value old z)
      (filter-has_value (λ x. not (has_value old x)) (as_set new) z (take-has_value (16 - length old) S z i)).1)))
]
  where
    S : List (List ℕ)
    S = filter (λ x. not (has_value old x)) (as_set new)

    full : (o s d f : ℕ) → nat_le s (16 - o) ≡ false → d ≡ min (16 - o) s → o + d ≤ f → 16 ≤ f
    full o s d f h k l = let j : 16 - o ≤ s = past s (16 - o) h in omega (arith, j, k, l)
      where
        past : (a b : ℕ) → nat_le a b ≡ false → b ≤ a
        past a b h = grind (arith, nat_tests)

-- and then is filled no more
with_up_to_sixteen-still : (f new : List (List ℕ))
    → (16 ≤ length f) ⊎ ((z : List ℕ) → has_value new z ≡ true → has_value f z ≡ true) → with_up_to_sixteen f new ≡ f
unfolding with_up_to_sixteen
with_up_to_sixteen-still f new (inl h) = let e : 16 - length f ≡ 0 = omega (arith, h) in rw e refl
with_up_to_sixteen-still f new (inr h) =
    let e : filter (λ x. not (has_value f x)) (as_set new) ≡ [] = empty (as_set new) (λ z i. h z (set-from new z i)) in
    rw e (gone (16 - length f))
  where
    gone : (k : ℕ) → all_with (take k []) f ≡ f
    gone zero = refl
    gone (suc k) = refl

    empty : (xs : List (List ℕ)) → ((z : List ℕ) → has_value xs z ≡ true → has_value f z ≡ true)
        → filter (λ x. not (has_value f x)) xs ≡ []
    empty [] g = refl
    empty (x ∷ xs) g =
        let k : has_value f x ≡ true = g x (or_left (same_value x x) (has_value xs x) (same_value-refl x)) in
        rw k (empty xs (λ z i. g z (or_right (same_value x z) (has_value xs z) i)))

append-has_value : (xs ys : List (List ℕ)) (z : List ℕ) → has_value (xs ++ ys) z ≡ true
    → (has_value xs z ≡ true) ⊎ (has_value ys z ≡ true)
append-has_value [] ys z h = inr h
append-has_value (x ∷ xs) ys z h = elim (or_cases (same_value x z) (has_value (xs ++ ys) z) h) [
  | inl e ↦ inl (or_left (same_value x z) (has_value xs z) e)
  | inr e ↦ elim (append-has_value xs ys z e) [
    | inl j ↦ inl (or_right (same_value x z) (has_value xs z) j)
    | inr j ↦ inr j
  ]
]

-- what is not accepted by v itself is accepted where v votes for it
value-from : (s : Seen) → Fair s → (V A B : List (List ℕ)) (x : List ℕ) → has_value A x ≡ false
    → accepted s Nomination (Some (Nominate V A)) (backs_value x) (takes_value x) ≡ true
    → accepted s Nomination (Some (Nominate V B)) (backs_value x) (takes_value x) ≡ true
value-from s f V A B x n h =
    elim (or_cases (s.quorum Nomination (passes (backs_value x) (Some (Nominate V A))) (backs_value x))
    (s.blocking Nomination (passes (takes_value x) (Some (Nominate V A))) (takes_value x)) h) [
      | inl q ↦ or_left _ (s.blocking Nomination (passes (takes_value x) (Some (Nominate V B))) (takes_value x))
          (quorum_more s f Nomination (Some (Nominate V A)) (Some (Nominate V B)) (backs_value x)
          (or_left (has_value V x) (has_value B x)
          (first_holds (has_value V x) (has_value A x)
          (quorum_own s f Nomination (Some (Nominate V A)) (backs_value x) q) n)) q)
      | inr q ↦ or_right (s.quorum Nomination (passes (backs_value x) (Some (Nominate V B))) (backs_value x)) _
          (blocking_more s f Nomination (Some (Nominate V A)) (Some (Nominate V B)) (takes_value x) (takes_value x)
          (λ y i. i) (λ i. absurd (true≢false (sym i ∙ n))) q)
    ]

accepts-still : (s : Seen) → Fair s → (V ac : List (List ℕ)) → new_accepts s V (new_accepts s V ac) ≡ new_accepts s V ac
accepts-still s f V ac = with_up_to_sixteen-still A (cands A) (elim (with_up_to_sixteen-full ac (cands ac)) [
  | inl h ↦ inl h
  | inr h ↦ inr
      (λ z i. settle z (filter-has_value (test A) (flat_map values_by (s.rows Nomination) ++ V ++ A) z i) h
      (cases_Bool (has_value A z)))
])
  where
    A : List (List ℕ)
    A = new_accepts s V ac

    test : List (List ℕ) → List ℕ → Bool
    test B x = accepted s Nomination (Some (Nominate V B)) (backs_value x) (takes_value x)

    cands : List (List ℕ) → List (List ℕ)
    cands B = filter (test B) (flat_map values_by (s.rows Nomination) ++ V ++ B)

    settle : (z : List ℕ) → (has_value (flat_map values_by (s.rows Nomination) ++ V ++ A) z ≡ true) × (test A z ≡ true)
        → ((y : List ℕ) → has_value (cands ac) y ≡ true → has_value A y ≡ true)
        → (has_value A z ≡ true) ⊎ (has_value A z ≡ false) → has_value A z ≡ true
    settle z p h (inl e) = e
    settle z p h (inr e) =
        h z (among-filter (test ac) (flat_map values_by (s.rows Nomination) ++ V ++ ac) z
        (elim (append-has_value (flat_map values_by (s.rows Nomination) ++ V) A z p.0) [
          | inl i ↦ value-left (flat_map values_by (s.rows Nomination) ++ V) ac z i
          | inr j ↦ absurd (true≢false (sym j ∙ e))
        ]) (value-from s f V A ac z e p.1))

-- one pass over the three sets, and they rest
pub sets-rest : (v : ℕ) (s : Seen) → Fair s → (g : Inputs) (vo ac co : List (List ℕ)) → Ascending co
    → let V = new_voted v s g vo co in let A = new_accepts s V ac in let C = new_confirms s V A co in
    Ascending C × NominationRestsAt v s g V A C
sets-rest v s f g vo ac co h =
    let V = new_voted v s g vo co in
    let A = new_accepts s V ac in
    let F = filter (λ x. confirmed s Nomination (Some (Nominate V A)) (takes_value x)) A in
    let C = all_with F co in
    let up : Ascending C = all-ascending F co h in (
      up,
      rests-from v s g V A C (voted-stays C (all-longer F co).0 (echoes g C) refl) (accepts-still s f V ac)
          (all-same F C up (λ z m. all-has F co z m)),
    )
  where
    voted-stays : (C : List (List ℕ)) → length co ≤ length C → (b : Bool) → echoes g C ≡ b
        → (if b then with_up_to_sixteen (new_voted v s g vo co) (sources v s g) else new_voted v s g vo co)
        ≡ new_voted v s g vo co
    voted-stays C l false k = refl
    voted-stays C l true k =
        let p = and_parts (nat_lt 0 g.round) (not (nat_lt 0 (length C))) k in
        let q : echoes g co ≡ true =
        and_from (nat_lt 0 g.round) (not (nat_lt 0 (length co))) p.0 (fewer (length co) (length C) l p.1) in
        let e : new_voted v s g vo co ≡ with_up_to_sixteen vo (sources v s g) =
        ap (λ b. if b then with_up_to_sixteen vo (sources v s g) else vo) q in
        subst (λ m. with_up_to_sixteen m (sources v s g) ≡ m) (sym e)
        (with_up_to_sixteen-still (with_up_to_sixteen vo (sources v s g)) (sources v s g)
        (with_up_to_sixteen-full vo (sources v s g)))
      where
        fewer : (a b : ℕ) → a ≤ b → not (nat_lt 0 b) ≡ true → not (nat_lt 0 a) ≡ true
        fewer a b h k = grind (arith, nat_tests)
