-- Ballots that leave a list: whether some row still speaks of one, and what is left.
use Rattle.std.proofs.Common.{◌≡◌, ℕ, ◌+◌, ◌-◌, ◌<◌, ◌≤◌, Bool, true, false, ◌||◌, ◌&&◌, ◌==◌, add-one, List, [], ◌∷◌, ◌++◌, Option, Some, None, drop, filter, filter_map, flat_map, get_or, length, refl, sym, ◌∙◌, ap, subst, inl, inr, ◌⊎◌, arith}
use Rattle.std.specs.List.{Contains, cons_option, remove}
use Rattle.std.specs.List.Sorted.{IsPermutation}
use Rattle.std.proofs.Math.Seq.{drop-cons}
use Rattle.std.proofs.lemmas.Bool.{and_from, and_parts, cases_Bool, eq-eqb, eqb-true, false≢true, or_cases, or_left, or_right, true≢false}
use Rattle.std.proofs.lemmas.List.{drop_all}
use Rattle.std.proofs.lemmas.List.Edits.{get_or-remove_above, get_or-remove_below, length-remove}
use Rattle.std.proofs.lemmas.List.Elements.{Contains-append_cases, Contains-append_left, Contains-append_right}
use Rattle.std.proofs.lemmas.List.Sorted.{Contains-permutation, IsPermutation-remove, IsPermutation-sym}
use Rattle.scp_types.specs.declared.ballot.Ballot.{Ballot}
use Rattle.scp_types.specs.declared.statement.Statement.{Statement}
use Rattle.scp_types.specs.Votes.{same_value}
use Rattle.scp_spec.specs.Candidates.{has_positive_counter}
use Rattle.scp_spec.specs.Sameness.{same_ballot}
use Rattle.scp_spec.specs.States.{below}
use Rattle.scp_spec.proofs.Ballots.Order.{below-self}
use Rattle.scp_spec.proofs.Equality.Sameness.{same_value-refl, same_value-true}
use Rattle.scp_spec.proofs.Sets.Contained.{contained_cases, contains_head, contains_tail}
use Rattle.scp_spec.proofs.Sets.Finite.{same_test}
use Rattle.node_view.specs.Listing.{AreLeft, IsDescending, IsPlaceUnder, is_one_of}
use Rattle.node_view.proofs.ListedLaws.{less_or_from}
use Rattle.node_view.proofs.SameRows.{kept_from, kept_to, none_contained}

-- ---- one of some ballots
one_from : (a b : Ballot) → same_ballot a b ≡ true → a ≡ b
one_from a b h =
    let p = and_parts (a.counter == b.counter) (same_value a.value b.value) h in
    let counters = eqb-true a.counter b.counter p.0 in
    let values = same_value-true a.value b.value p.1 in
    λ i. record { counter = counters i; value = values i }

one_to : (a b : Ballot) → a ≡ b → same_ballot a b ≡ true
one_to a b is = subst (λ x. same_ballot a x ≡ true) is (and_from (a.counter == a.counter) (same_value a.value a.value) (eq-eqb a.counter a.counter refl) (same_value-refl a.value))

pub one_of_from : (ts : List Ballot) (t : Ballot) → is_one_of ts t ≡ true → Contains ts t
one_of_from [] t h = absurd (false≢true h)
one_of_from (s ∷ ts) t h = elim (or_cases (same_ballot s t) (is_one_of ts t) h) [
  | inl e ↦ subst (λ x. Contains (s ∷ ts) x) (one_from s t e) (contains_head s ts)
  | inr e ↦ contains_tail t s ts (one_of_from ts t e)
]

pub one_of_to : (ts : List Ballot) (t : Ballot) → Contains ts t → is_one_of ts t ≡ true
one_of_to [] t c = absurd (none_contained t c)
one_of_to (s ∷ ts) t c = elim (contained_cases t s ts c) [
  | inl q ↦ or_left (same_ballot s t) (is_one_of ts t) (one_to s t q)
  | inr i ↦ or_right (same_ballot s t) (is_one_of ts t) (one_of_to ts t i)
]

-- of those with counters from 1 on
pub counted_one : (ts : List Ballot) (t : Ballot) → is_one_of (filter has_positive_counter ts) t ≡ has_positive_counter t && is_one_of ts t
counted_one ts t =
    same_test (is_one_of (filter has_positive_counter ts) t) (has_positive_counter t && is_one_of ts t)
    (λ h. let r = kept_from has_positive_counter ts t (one_of_from (filter has_positive_counter ts) t h) in and_from (has_positive_counter t) (is_one_of ts t) r.1 (one_of_to ts t r.0))
    (λ h. let p = and_parts (has_positive_counter t) (is_one_of ts t) h in one_of_to (filter has_positive_counter ts) t (kept_to has_positive_counter ts t (one_of_from ts t p.1) p.0))

or_assoc : (a b c : Bool) → (a || b) || c ≡ a || (b || c)
or_assoc true b c = refl
or_assoc false b c = refl

pub one_of_append : (xs ys : List Ballot) (t : Ballot) → is_one_of (xs ++ ys) t ≡ is_one_of xs t || is_one_of ys t
one_of_append [] ys t = refl
one_of_append (x ∷ xs) ys t = ap (λ b. same_ballot x t || b) (one_of_append xs ys t) ∙ sym (or_assoc (same_ballot x t) (is_one_of xs t) (is_one_of ys t))

-- ---- whether what nodes say has it, node by node
module _ (said : ℕ → Option Statement) (by : Statement → List Ballot) (us : List ℕ) (i : ℕ) (t : Ballot) where
  -- of what the nodes from a place on say
  pub rest_has : ℕ → Bool
  rest_has n = is_one_of (flat_map by (filter_map said (drop n us))) t

  next_has : i < length us → rest_has i ≡ is_one_of (flat_map by (cons_option (said (get_or us i 0)) (filter_map said (drop (i + 1) us)))) t
  unfolding rest_has
  next_has within =
      let next : drop i us ≡ get_or us i 0 ∷ drop (i + 1) us = rw add-one (drop-cons us i 0 within) in
      ap (λ (ws : List ℕ). is_one_of (flat_map by (filter_map said ws)) t) next

  -- a node that says nothing
  pub silent_has : (all : Bool) → i < length us → None ≡ said (get_or us i 0) → rest_has i ≡ all → rest_has (i + 1) ≡ all
  unfolding rest_has
  silent_has all within is so_far =
      ap (λ (o : Option Statement). is_one_of (flat_map by (cons_option o (filter_map said (drop (i + 1) us)))) t) is ∙ sym (next_has within) ∙ so_far

  one_has : (s : Statement) → i < length us → Some s ≡ said (get_or us i 0) → rest_has i ≡ is_one_of (by s) t || rest_has (i + 1)
  unfolding rest_has
  one_has s within is =
      next_has within
      ∙ ap (λ (o : Option Statement). is_one_of (flat_map by (cons_option o (filter_map said (drop (i + 1) us)))) t) (sym is)
      ∙ one_of_append (by s) (flat_map by (filter_map said (drop (i + 1) us))) t

  -- one that speaks of other ballots
  pub other_has : (s : Statement) (all : Bool) → i < length us → Some s ≡ said (get_or us i 0) → is_one_of (by s) t ≡ false → rest_has i ≡ all → rest_has (i + 1) ≡ all
  other_has s all within is not so_far = ap (λ b. b || rest_has (i + 1)) (sym not) ∙ sym (one_has s within is) ∙ so_far

  -- one that speaks of this ballot
  pub this_has : (s : Statement) (all : Bool) → i < length us → Some s ≡ said (get_or us i 0) → is_one_of (by s) t ≡ true → rest_has i ≡ all → true ≡ all
  this_has s all within is speaks so_far = ap (λ b. b || rest_has (i + 1)) (sym speaks) ∙ sym (one_has s within is) ∙ so_far

  -- and the end
  pub end_has : (all : Bool) → length us ≤ i → rest_has i ≡ all → false ≡ all
  unfolding rest_has
  end_has all end so_far = ap (λ (ws : List ℕ). is_one_of (flat_map by (filter_map said ws)) t) (sym (drop_all i us end)) ∙ so_far

-- ---- a ballot is taken out of a list
-- it stands right before those below it
pub found_before : (ts : List Ballot) (t : Ballot) (p : ℕ) → IsDescending ts → IsPlaceUnder (Some t) ts p → Contains ts t → (k : ℕ) × (p ≡ k + 1) × (k < length ts) × (get_or ts k t ≡ t)
found_before ts t p down place has = (has.0, least_after, has.1, has.2)
  where
    k : ℕ
    k = has.0

    under : k < p
    under = elim (less_or_from k p) [
      | inl l ↦ l
      | inr l ↦ absurd (true≢false (sym (place.from k t l has.1) ∙ (ap (λ x. below x t) has.2 ∙ below-self t)))
    ]

    over : p ≤ k + 1
    over = elim (less_or_from (k + 1) p) [
      | inl l ↦
          let within = place.within in
          let lower : below (get_or ts (k + 1) t) t ≡ true =
          subst (λ x. below (get_or ts (k + 1) t) x ≡ true) has.2 (down k (k + 1) t (omega arith) (omega (arith, l, within))) in
          absurd (true≢false (sym lower ∙ place.before (k + 1) t l))
      | inr l ↦ l
    ]

    least_after : p ≡ k + 1
    least_after = let l = under in let m = over in omega (arith, l, m)

pub remove_descends : (ts : List Ballot) (k : ℕ) → k < length ts → IsDescending ts → IsDescending (remove ts k)
remove_descends ts k inside down i j d l m = go (less_or_from i k) (less_or_from j k)
  where
    size : length (remove ts k) + 1 ≡ length ts
    size = length-remove ts k inside

    go : (i < k) ⊎ (k ≤ i) → (j < k) ⊎ (k ≤ j) → below (get_or (remove ts k) j d) (get_or (remove ts k) i d) ≡ true
    go (inl a) (inl b) = (λ n. below (get_or-remove_below ts k d j b inside n) (get_or-remove_below ts k d i a inside n)) ∙ down i j d l (omega (arith, b, inside))
    go (inl a) (inr b) = (λ n. below (get_or-remove_above ts k d j b inside n) (get_or-remove_below ts k d i a inside n)) ∙ down i (j + 1) d (omega (arith, l)) (let s = size in omega (arith, m, s))
    go (inr a) (inl b) = absurd (omega (arith, l, a, b))
    go (inr a) (inr b) = (λ n. below (get_or-remove_above ts k d j b inside n) (get_or-remove_above ts k d i a inside n)) ∙ down (i + 1) (j + 1) d (omega (arith, l)) (let s = size in omega (arith, m, s))

module _ (ts : List Ballot) (t : Ballot) (k : ℕ) (inside : k < length ts) (is : get_or ts k t ≡ t) (down : IsDescending ts) where
  split : IsPermutation ts (t ∷ remove ts k)
  split = IsPermutation-remove ts k t inside (sym is)

  -- it does not stand there twice
  gone : Contains (remove ts k) t → ⊥
  gone c = elim (less_or_from c.0 k) [
    | inl a ↦
        let there : get_or ts c.0 t ≡ t = sym (get_or-remove_below ts k t c.0 a inside) ∙ c.2 in
        absurd (true≢false (sym (down c.0 k t a inside) ∙ ((λ n. below (is n) (there n)) ∙ below-self t)))
    | inr a ↦
        let there : get_or ts (c.0 + 1) t ≡ t = sym (get_or-remove_above ts k t c.0 a inside) ∙ c.2 in
        let size = length-remove ts k inside in
        let within = c.1 in
        absurd (true≢false (sym (down k (c.0 + 1) t (omega (arith, a)) (omega (arith, within, size))) ∙ ((λ n. below (there n) (is n)) ∙ below-self t)))
  ]

  pub removed_left : AreLeft [] (t ∷ []) ts (remove ts k)
  removed_left x = (over, back)
    where
      other : Contains (remove ts k) x → Contains (t ∷ []) x → ⊥
      other c i = elim (contained_cases x t [] i) [
        | inl q ↦ gone (subst (λ y. Contains (remove ts k) y) (sym q) c)
        | inr n ↦ none_contained x n
      ]

      over : Contains (remove ts k) x → Contains ts x × (Contains [] x ⊎ (Contains (t ∷ []) x → ⊥))
      over c = (Contains-permutation (t ∷ remove ts k) ts x (IsPermutation-sym ts (t ∷ remove ts k) split) (contains_tail x t (remove ts k) c), inr (other c))

      back : Contains ts x × (Contains [] x ⊎ (Contains (t ∷ []) x → ⊥)) → Contains (remove ts k) x
      back (c, inl n) = absurd (none_contained x n)
      back (c, inr n) = elim (contained_cases x t (remove ts k) (Contains-permutation ts (t ∷ remove ts k) x split c)) [
        | inl q ↦ absurd (n (subst (λ y. Contains (t ∷ []) y) q (contains_head t [])))
        | inr i ↦ i
      ]

-- what is not listed can't leave
pub missing_left : (ts : List Ballot) (t : Ballot) → (Contains ts t → ⊥) → AreLeft [] (t ∷ []) ts ts
missing_left ts t missing x = (λ c. (c, inr (other c)), λ c. c.0)
  where
    other : Contains ts x → Contains (t ∷ []) x → ⊥
    other c i = elim (contained_cases x t [] i) [
      | inl q ↦ missing (subst (λ y. Contains ts y) (sym q) c)
      | inr n ↦ none_contained x n
    ]

-- ---- what some row still speaks of stays
pub still_left : (staying ts : List Ballot) (t : Ballot) → is_one_of staying t ≡ true → AreLeft staying (t ∷ []) ts ts
still_left staying ts t stays x = (λ c. (c, decided (cases_Bool (same_ballot t x))), λ c. c.0)
  where
    decided : (same_ballot t x ≡ true) ⊎ (same_ballot t x ≡ false) → Contains staying x ⊎ (Contains (t ∷ []) x → ⊥)
    decided (inl e) = inl (subst (λ y. Contains staying y) (one_from t x e) (one_of_from staying t stays))
    decided (inr e) = inr (λ i. elim (contained_cases x t [] i) [ inl q ↦ true≢false (sym (one_to t x q) ∙ e) | inr n ↦ none_contained x n ])

pub gone_left : (staying old new : List Ballot) (t : Ballot) → is_one_of staying t ≡ false → AreLeft [] (t ∷ []) old new → AreLeft staying (t ∷ []) old new
gone_left staying old new t goes left x = (over, back)
  where
    over : Contains new x → Contains old x × (Contains staying x ⊎ (Contains (t ∷ []) x → ⊥))
    over c = go ((left x).0 c)
      where
        go : Contains old x × (Contains [] x ⊎ (Contains (t ∷ []) x → ⊥)) → Contains old x × (Contains staying x ⊎ (Contains (t ∷ []) x → ⊥))
        go (i, inl n) = absurd (none_contained x n)
        go (i, inr n) = (i, inr n)

    another : Contains staying x → Contains (t ∷ []) x → ⊥
    another s i = elim (contained_cases x t [] i) [
      | inl q ↦ true≢false (sym (one_of_to staying t (subst (λ y. Contains staying y) (sym q) s)) ∙ goes)
      | inr n ↦ none_contained x n
    ]

    back : Contains old x × (Contains staying x ⊎ (Contains (t ∷ []) x → ⊥)) → Contains new x
    back (c, inl s) = (left x).1 (c, inr (another s))
    back (c, inr n) = (left x).1 (c, inr n)

-- none leave, some do, and then others
pub none_left : (staying ts : List Ballot) → AreLeft staying [] ts ts
none_left staying ts x = (λ c. (c, inr (none_contained x)), λ c. c.0)

pub left_then : (staying ss ts old mid new : List Ballot) → AreLeft staying ss old mid → AreLeft staying ts mid new → AreLeft staying (ss ++ ts) old new
left_then staying ss ts old mid new first then x = (over, back)
  where
    over : Contains new x → Contains old x × (Contains staying x ⊎ (Contains (ss ++ ts) x → ⊥))
    over c =
        let b = (then x).0 c in
        let a = (first x).0 b.0 in
        (a.0, both a.1 b.1)
      where
        both : Contains staying x ⊎ (Contains ss x → ⊥) → Contains staying x ⊎ (Contains ts x → ⊥) → Contains staying x ⊎ (Contains (ss ++ ts) x → ⊥)
        both (inl s) q = inl s
        both (inr m) (inl s) = inl s
        both (inr m) (inr n) = inr (λ i. elim (Contains-append_cases ss ts x i) [ inl j ↦ m j | inr j ↦ n j ])

    back : Contains old x × (Contains staying x ⊎ (Contains (ss ++ ts) x → ⊥)) → Contains new x
    back (c, inl s) = (then x).1 ((first x).1 (c, inl s), inl s)
    back (c, inr n) = (then x).1 ((first x).1 (c, inr (λ i. n (Contains-append_left ss ts x i))), inr (λ i. n (Contains-append_right ss ts x i)))

-- a ballot that a search found is taken out of the list
pub taken_out : (ts : List Ballot) (t : Ballot) (p : ℕ) → IsDescending ts → IsPlaceUnder (Some t) ts p → Contains ts t → (1 ≤ p) × (p - 1 < length ts) × AreLeft [] (t ∷ []) ts (remove ts (p - 1))
taken_out ts t p down place has =
    let at = found_before ts t p down place has in
    let e = at.1 in
    let l = at.2 in
    let before : at.0 ≡ p - 1 = omega (arith, e) in
    (omega (arith, e), omega (arith, e, l), subst (λ n. AreLeft [] (t ∷ []) ts (remove ts n)) before (removed_left ts t at.0 at.2 at.3 down))

-- the ballots that leave one after the other are those of a list
pub three_left : (staying old mid then_mid new ps qs rs all : List Ballot) → ps ++ qs ++ rs ≡ all
    → AreLeft staying ps old mid → AreLeft staying qs mid then_mid → AreLeft staying rs then_mid new
    → AreLeft staying all old new
three_left staying old mid then_mid new ps qs rs all is first then last =
    subst (λ (ts : List Ballot). AreLeft staying ts old new) is
    (left_then staying (ps ++ qs) rs old then_mid new (left_then staying ps qs old mid then_mid first then) last)
