-- A list that descends: a ballot that is put in its place keeps it so, and the first one below a bound is the next.
use Rattle.std.proofs.Common.{◌≡◌, ℕ, zero, suc, ◌+◌, ◌-◌, ◌<◌, ◌≤◌, true, false, nat_lt, List, [], ◌∷◌, ◌++◌, Option, Some, None, filter, filter_map, flat_map, option_to_list, get_or, length, take, OnOk, Result, Ok, Err, refl, sym, ◌∙◌, ap, ap₂, subst, inl, inr, ◌⊎◌, ◌↔◌, arith}
use Rattle.std.specs.List.{Contains, cons_option, insert}
use Rattle.std.specs.List.Sorted.{IsBinarySearchResult, IsNonDecreasingBy, IsPartitionPoint, IsPermutation, IsSearchInRange}
use Rattle.std.specs.Ordering.{is_lt, ordering_index, ordering_reverse}
use Rattle.std.specs.declared.cmp.Ordering.{Ordering}
use Rattle.std.specs.declared.cmp.Ordering.TheVariants.{Less, Equal, Greater}
use Rattle.std.proofs.lemmas.Bool.{cases_Bool, false≢true, true≢false}
use Rattle.std.proofs.lemmas.Bool.Decides.{nat_tests}
use Rattle.std.proofs.lemmas.Cmp.{tied_itself}
use Rattle.std.proofs.lemmas.Grind.{flat_map-append}
use Rattle.std.proofs.lemmas.List.{append-nil, append_assoc, get_or_default, take_all, take_more}
use Rattle.std.proofs.lemmas.List.Edits.{get_or-insert_above, get_or-insert_at, get_or-insert_below, length-insert}
use Rattle.std.proofs.lemmas.List.Elements.{Contains-append_cases, Contains-append_left, Contains-append_right, Contains-push_cases, filter-append}
use Rattle.std.proofs.lemmas.List.Sorted.{Contains-permutation, IsPermutation-insert, IsPermutation-sym, IsPermutation-to_front, IsPermutation-trans}
use Rattle.scp_types.specs.declared.ballot.Ballot.{Ballot}
use Rattle.scp_types.specs.declared.statement.Statement.{Statement}
use Rattle.scp_spec.specs.Candidates.{has_positive_counter}
use Rattle.scp_spec.specs.Extremes.{IsGreatest, IsGreatestIn}
use Rattle.scp_spec.specs.Extremes.IsGreatestIn.{nothing, this}
use Rattle.scp_spec.specs.States.{below}
use Rattle.scp_types.specs.Orders.{ballot_cmp}
use Rattle.scp_spec.proofs.Ballots.Order.{ballots_ordered, below-asym, below-self, below-trans, one_ballot}
use Rattle.scp_spec.proofs.Ballots.Greatest.{greatest_is_alone, greatest_is_exact}
use Rattle.scp_voting.specs.Searching.{is_under, next_under}
use Rattle.node_view.specs.Listing.{AreListed, IsBallotPlace, IsDescending, IsPlaceUnder, FindsAsAmong}
use Rattle.node_view.proofs.SameRows.{is_contained, is_in, kept_from, kept_to, none_contained, same_next}

pub less_or_same : (i j : ℕ) → i ≤ j → (i < j) ⊎ (i ≡ j)
less_or_same i j l = elim (cases_Bool (nat_lt i j)) [ inl e ↦ inl (is_less i j e) | inr e ↦ inr (is_same i j l e) ]
  where
    is_less : (i j : ℕ) → nat_lt i j ≡ true → i < j
    is_less i j e = grind (arith, nat_tests)

    is_same : (i j : ℕ) → i ≤ j → nat_lt i j ≡ false → i ≡ j
    is_same i j l e = grind (arith, nat_tests)

pub less_or_from : (i j : ℕ) → (i < j) ⊎ (j ≤ i)
less_or_from i j = elim (cases_Bool (nat_lt i j)) [ inl e ↦ inl (is_less i j e) | inr e ↦ inr (is_from i j e) ]
  where
    is_less : (i j : ℕ) → nat_lt i j ≡ true → i < j
    is_less i j e = grind (arith, nat_tests)

    is_from : (i j : ℕ) → nat_lt i j ≡ false → j ≤ i
    is_from i j e = grind (arith, nat_tests)

-- ---- the place of a ballot
is_less : (o : Ordering) → is_lt o ≡ true → o ≡ Less
is_less Less h = refl
is_less Equal h = absurd (false≢true h)
is_less Greater h = absurd (false≢true h)

turned : (a b : Ballot) (o : Ordering) → ballot_cmp a b ≡ o → ballot_cmp b a ≡ ordering_reverse o
turned a b o is = ballots_ordered.antisymm b a ∙ ap ordering_reverse is

-- the lesser a ballot is, the more is this one above it
rises : (t a b : Ballot) → below b a ≡ true → ordering_index (ballot_cmp t a) ≤ ordering_index (ballot_cmp t b)
rises t a b under = elim (cases_Bool (below t a)) [
  | inl h ↦ subst (λ o. ordering_index o ≤ ordering_index (ballot_cmp t b)) (sym (is_less (ballot_cmp t a) h)) (omega arith)
  | inr h ↦ elim (cases_Bool (below b t)) [
    | inl k ↦ subst (λ o. ordering_index (ballot_cmp t a) ≤ ordering_index o) (sym (turned b t Less (is_less (ballot_cmp b t) k))) (most (ballot_cmp t a))
    | inr k ↦ absurd (true≢false (sym under ∙ below-trans b t a k h))
  ]
]
  where
    most : (o : Ordering) → ordering_index o ≤ 2
    most Less = omega arith
    most Equal = omega arith
    most Greater = omega arith

-- ballots with one counter and one value
pub same_ballots : (a b : Ballot) → a.counter ≡ b.counter → a.value ≡ b.value → Equal ≡ ballot_cmp a b
same_ballots a b counters values =
    let one : a ≡ b = (λ i. record { counter = counters i; value = values i }) in
    sym (tied_itself ballots_ordered a) ∙ ap (ballot_cmp a) one

-- the place behind a ballot that is found, or the one at which it is to be put
abbrev pub behind_found : Result ℕ ℕ → Result ℕ ℕ
behind_found (Ok p) = Ok (p + 1)
behind_found (Err p) = Err p

module _ (ts : List Ballot) (t : Ballot) (down : IsDescending ts) where
  rising : IsNonDecreasingBy (λ u. ordering_index (ballot_cmp t u)) ts
  rising i j d l m = elim (less_or_same i j l) [
    | inl k ↦ rises t (get_or ts i d) (get_or ts j d) (down i j d k m)
    | inr q ↦ subst (λ n. ordering_index (ballot_cmp t (get_or ts i d)) ≤ ordering_index (ballot_cmp t (get_or ts n d))) q (omega arith)
  ]

  -- those begin behind it that are below it
  pub behind : (i : ℕ) → i < length ts → get_or ts i t ≡ t → IsPlaceUnder (Some t) ts (i + 1)
  behind i inside is = record {
    within = omega (arith, inside);
    before = λ k d l. elim (less_or_same k i (omega (arith, l))) [
      | inl m ↦ below-asym t (get_or ts k d) (subst (λ u. below u (get_or ts k d) ≡ true) (here d) (down k i d m inside))
      | inr q ↦ subst (λ u. below u t ≡ false) (sym (ap (λ n. get_or ts n d) q ∙ here d)) (below-self t)
    ];
    from = λ k d l m. subst (λ u. below (get_or ts k d) u ≡ true) (here d) (down i k d (omega (arith, l)) m);
  }
    where
      here : (d : Ballot) → get_or ts i d ≡ t
      here d = get_or_default ts i d t inside ∙ is

  -- what a binary search finds: the ballot
  found_there : (i : ℕ) → i < length ts → ((d : Ballot) → ballot_cmp t (get_or ts i d) ≡ Equal) → IsBallotPlace t ts (Ok (i + 1))
  found_there i within at =
      let u = get_or ts i t in
      let is : u ≡ t = one_ballot u t (ap is_lt (turned t u Equal (at t))) (ap is_lt (at t)) in
      (behind i within is, (i, within, is))

  -- or the place between those above it and those below it
  found_nowhere : (p : ℕ) → p ≤ length ts
      → (IsNonDecreasingBy (λ u. ordering_index (ballot_cmp t u)) ts → IsPartitionPoint (λ u. ballot_cmp t u ≡ Less) (λ u. ballot_cmp t u ≡ Greater) ts p) → IsBallotPlace t ts (Err p)
  found_nowhere p within parts = (
    record {
      within = within;
      before = λ i d l. ap is_lt (turned t (get_or ts i d) Less ((parts rising).0 i d (omega arith) l));
      from = λ i d l m. ap is_lt (turned t (get_or ts i d) Greater ((parts rising).1 i d l m));
    },
    λ c. elim (less_or_from c.0 p) [
      | inl l ↦ absurd (true≢false (sym (ap is_lt (subst (λ u. ballot_cmp t u ≡ Less) c.2 ((parts rising).0 c.0 t (omega arith) l))) ∙ below-self t))
      | inr l ↦ absurd (true≢false (sym (ap is_lt (turned t t Greater (subst (λ u. ballot_cmp t u ≡ Greater) c.2 ((parts rising).1 c.0 t l c.1)))) ∙ below-self t))
    ],
  )

  -- what it finds by what it answers, in the list as it is seen
  pub found : (now : List Ballot) (r answer : Result ℕ ℕ) → ts ≡ now → r ≡ answer → IsSearchInRange r (length ts) → IsBinarySearchResult (λ u. ballot_cmp t u) ts r → IsBallotPlace t now (behind_found answer)
  found now r answer seen is within result =
      subst (λ (us : List Ballot). IsBallotPlace t us (behind_found answer)) seen (go answer (subst (λ q. IsSearchInRange q (length ts)) is within) (subst (λ q. IsBinarySearchResult (λ u. ballot_cmp t u) ts q) is result))
    where
      go : (q : Result ℕ ℕ) → IsSearchInRange q (length ts) → IsBinarySearchResult (λ u. ballot_cmp t u) ts q → IsBallotPlace t ts (behind_found q)
      go (Ok p) inside at = found_there p inside at
      go (Err p) inside parts = found_nowhere p inside parts

-- ---- a ballot that is put in its place
module _ (ts : List Ballot) (t : Ballot) (p : ℕ) (place : IsPlaceUnder (Some t) ts p) (down : IsDescending ts) where
  above_it : (Contains ts t → ⊥) → (i : ℕ) (d : Ballot) → i < p → below t (get_or ts i d) ≡ true
  above_it missing i d l = elim (cases_Bool (below t (get_or ts i d))) [
    | inl e ↦ e
    | inr e ↦
        let within = place.within in
        let inside : i < length ts = omega (arith, l, within) in
        let same : get_or ts i d ≡ t = one_ballot (get_or ts i d) t (place.before i d l) e in
        absurd (missing (i, inside, get_or_default ts i t d inside ∙ same))
  ]

  stands : (k : ℕ) → (k < p) ⊎ ((k ≡ p) ⊎ ((n : ℕ) × (k ≡ n + 1) × (p ≤ n)))
  stands k = elim (less_or_from k p) [
    | inl l ↦ inl l
    | inr l ↦ elim (less_or_same p k l) [
      | inl m ↦ inr (inr (k - 1, omega (arith, m), omega (arith, m)))
      | inr e ↦ inr (inl (sym e))
    ]
  ]

  pub insert_descends : (Contains ts t → ⊥) → IsDescending (insert ts p t)
  insert_descends missing i j d l m = go (stands i) (stands j)
    where
      now : List Ballot
      now = insert ts p t

      size : length now ≡ length ts + 1
      size = length-insert ts p t place.within

      under : (k : ℕ) → k < p → get_or now k d ≡ get_or ts k d
      under k h = get_or-insert_below ts p t d k h place.within

      here : (k : ℕ) → k ≡ p → get_or now k d ≡ t
      here k e = ap (λ n. get_or now n d) e ∙ get_or-insert_at ts p t d place.within

      over : (k n : ℕ) → k ≡ n + 1 → p ≤ n → get_or now k d ≡ get_or ts n d
      over k n e h = ap (λ x. get_or now x d) e ∙ get_or-insert_above ts p t d n h place.within

      go : (i < p) ⊎ ((i ≡ p) ⊎ ((n : ℕ) × (i ≡ n + 1) × (p ≤ n))) → (j < p) ⊎ ((j ≡ p) ⊎ ((n : ℕ) × (j ≡ n + 1) × (p ≤ n))) → below (get_or now j d) (get_or now i d) ≡ true
      go (inl a) (inl b) = ap₂ below (under j b) (under i a) ∙ down i j d l (let w = place.within in omega (arith, b, w))
      go (inl a) (inr (inl b)) = ap₂ below (here j b) (under i a) ∙ above_it missing i d a
      go (inl a) (inr (inr b)) = ap₂ below (over j b.0 b.1 b.2) (under i a) ∙ down i b.0 d (let h = b.2 in omega (arith, a, h)) (let e = b.1 in let s = size in omega (arith, e, m, s))
      go (inr (inl a)) (inl b) = absurd (omega (arith, l, a, b))
      go (inr (inl a)) (inr (inl b)) = absurd (omega (arith, l, a, b))
      go (inr (inl a)) (inr (inr b)) = ap₂ below (over j b.0 b.1 b.2) (here i a) ∙ place.from b.0 d b.2 (let e = b.1 in let s = size in omega (arith, e, m, s))
      go (inr (inr a)) (inl b) = absurd (let e = a.1 in let h = a.2 in omega (arith, l, e, h, b))
      go (inr (inr a)) (inr (inl b)) = absurd (let e = a.1 in let h = a.2 in omega (arith, l, e, h, b))
      go (inr (inr a)) (inr (inr b)) = ap₂ below (over j b.0 b.1 b.2) (over i a.0 a.1 a.2) ∙ down a.0 b.0 d (let e = a.1 in let f = b.1 in omega (arith, e, f, l)) (let e = b.1 in let s = size in omega (arith, e, m, s))

-- ---- what is listed
pub insert_listed : (ts : List Ballot) (p : ℕ) (t : Ballot) → AreListed (insert ts p t) (ts ++ t ∷ [])
insert_listed ts p t x =
    let moved : IsPermutation (ts ++ t ∷ []) (insert ts p t) = IsPermutation-trans (ts ++ t ∷ []) (t ∷ ts) (insert ts p t) (IsPermutation-to_front ts t) (IsPermutation-insert ts p t) in
    (λ c. Contains-permutation (insert ts p t) (ts ++ t ∷ []) x (IsPermutation-sym (ts ++ t ∷ []) (insert ts p t) moved) c, λ c. Contains-permutation (ts ++ t ∷ []) (insert ts p t) x moved c)

pub has_listed : (ts : List Ballot) (t : Ballot) → Contains ts t → AreListed ts (ts ++ t ∷ [])
has_listed ts t has x = (
  λ c. Contains-append_left ts (t ∷ []) x c,
  λ c. elim (Contains-push_cases ts t x c) [ inl i ↦ i | inr q ↦ subst (λ y. Contains ts y) q has ],
)

-- a ballot with a counter from 1 on is added, and no other
pub counted_listed : (now ts : List Ballot) (t : Ballot) → has_positive_counter t ≡ true → AreListed now (ts ++ t ∷ []) → AreListed now (ts ++ filter has_positive_counter (t ∷ []))
counted_listed now ts t h listed = rw h listed

some_place : (p : ℕ) → (p ≡ 0 → ⊥) → 0 < p
some_place zero h = absurd (h refl)
some_place (suc p) h = omega arith

-- a counter that is not 0 is one from 1 on
pub has_positive_counter-from : (n : ℕ) (t : Ballot) → n ≡ t.counter → (n ≡ 0 → ⊥) → has_positive_counter t ≡ true
has_positive_counter-from n t is h = ap (λ k. nat_lt 0 k) (sym is) ∙ above n (some_place n h)
  where
    above : (k : ℕ) → 0 < k → nat_lt 0 k ≡ true
    above k l = grind (arith, nat_tests)

-- no ballots are added
pub as_before : (ts : List Ballot) → AreListed ts (ts ++ [])
as_before ts x = subst (λ (us : List Ballot). Contains ts x ↔ Contains us x) (sym (append-nil ts)) (λ c. c, λ c. c)

-- some are added, and then others
pub listed_then : (old mid now ts us : List Ballot) → AreListed mid (old ++ filter has_positive_counter ts) → AreListed now (mid ++ filter has_positive_counter us) → AreListed now (old ++ filter has_positive_counter (ts ++ us))
listed_then old mid now ts us first then x =
    subst (λ (ys : List Ballot). Contains now x ↔ Contains ys x) joined (over, back)
  where
    fs : List Ballot
    fs = filter has_positive_counter ts

    gs : List Ballot
    gs = filter has_positive_counter us

    joined : (old ++ fs) ++ gs ≡ old ++ filter has_positive_counter (ts ++ us)
    joined = append_assoc old fs gs ∙ ap (λ ys. old ++ ys) (sym (filter-append has_positive_counter ts us))

    over : Contains now x → Contains ((old ++ fs) ++ gs) x
    over c = elim (Contains-append_cases mid gs x ((then x).0 c)) [
      | inl i ↦ Contains-append_left (old ++ fs) gs x ((first x).0 i)
      | inr i ↦ Contains-append_right (old ++ fs) gs x i
    ]

    back : Contains ((old ++ fs) ++ gs) x → Contains now x
    back c = elim (Contains-append_cases (old ++ fs) gs x c) [
      | inl i ↦ (then x).1 (Contains-append_left mid gs x ((first x).1 i))
      | inr i ↦ (then x).1 (Contains-append_right mid gs x i)
    ]

on_ok : {A E : Type 0} (r : Result A E) (P Q : Type 0) → (P → Q) → OnOk r P → OnOk r Q
on_ok (Ok x) P Q f h = f h
on_ok (Err e) P Q f h = h

-- the same of three, where the last may want memory, and the ballots are named otherwise
pub three_listed : {A E : Type 0} (r : Result A E) (old mid then_mid now ts us vs all : List Ballot)
    → ts ++ us ++ vs ≡ all
    → AreListed mid (old ++ filter has_positive_counter ts) → AreListed then_mid (mid ++ filter has_positive_counter us)
    → OnOk r (AreListed now (then_mid ++ filter has_positive_counter vs))
    → OnOk r (AreListed now (old ++ filter has_positive_counter all))
three_listed r old mid then_mid now ts us vs all is first then last =
    on_ok r _ _
    (λ h. subst (λ (ys : List Ballot). AreListed now (old ++ filter has_positive_counter ys)) is
    (listed_then old then_mid now (ts ++ us) vs (listed_then old mid then_mid ts us first then) h))
    last

-- what one node more says comes last
said_more : (said : ℕ → Option Statement) (us : List ℕ) (u : ℕ) → filter_map said (us ++ u ∷ []) ≡ filter_map said us ++ option_to_list (said u)
said_more said [] u = go (said u)
  where
    go : (o : Option Statement) → cons_option o [] ≡ option_to_list o
    go None = refl
    go (Some s) = refl
said_more said (w ∷ us) u = go (said w) (said_more said us u)
  where
    go : (o : Option Statement) → filter_map said (us ++ u ∷ []) ≡ filter_map said us ++ option_to_list (said u)
        → cons_option o (filter_map said (us ++ u ∷ [])) ≡ cons_option o (filter_map said us) ++ option_to_list (said u)
    go None e = e
    go (Some s) e = ap (λ ss. s ∷ ss) e

module _ (said : ℕ → Option Statement) (by : Statement → List Ballot) (us : List ℕ) (i : ℕ) where
  more : i < length us → filter_map said (take (i + 1) us) ≡ filter_map said (take i us) ++ option_to_list (said (get_or us i 0))
  more within = ap (filter_map said) (take_more us i 0 within) ∙ said_more said (take i us) (get_or us i 0)

  -- what the node at the place says is added to them
  pub one_listed : (s : Statement) (mid now : List Ballot) → i < length us → Some s ≡ said (get_or us i 0)
      → AreListed mid (filter has_positive_counter (flat_map by (filter_map said (take i us)))) → AreListed now (mid ++ filter has_positive_counter (by s)) → AreListed now (filter has_positive_counter (flat_map by (filter_map said (take (i + 1) us))))
  one_listed s mid now within is first then =
      let joined : flat_map by (filter_map said (take (i + 1) us)) ≡ flat_map by (filter_map said (take i us)) ++ by s =
      ap (flat_map by) (more within)
      ∙ ap (λ o. flat_map by (filter_map said (take i us) ++ option_to_list o)) (sym is)
      ∙ flat_map-append by (filter_map said (take i us)) (s ∷ [])
      ∙ ap (λ ys. flat_map by (filter_map said (take i us)) ++ ys) (append-nil (by s)) in
      subst (λ (ts : List Ballot). AreListed now (filter has_positive_counter ts)) (sym joined) (listed_then [] mid now (flat_map by (filter_map said (take i us))) (by s) first then)

  -- or it says nothing
  pub none_listed : (now : List Ballot) → i < length us → None ≡ said (get_or us i 0)
      → AreListed now (filter has_positive_counter (flat_map by (filter_map said (take i us)))) → AreListed now (filter has_positive_counter (flat_map by (filter_map said (take (i + 1) us))))
  none_listed now within is first =
      let same : filter_map said (take i us) ≡ filter_map said (take (i + 1) us) = sym (more within ∙ ap (λ o. filter_map said (take i us) ++ option_to_list o) (sym is) ∙ append-nil (filter_map said (take i us))) in
      subst (λ (ss : List Statement). AreListed now (filter has_positive_counter (flat_map by ss))) same first

  -- at the end those of all are listed
  pub all_listed : (now : List Ballot) → length us ≤ i → AreListed now (filter has_positive_counter (flat_map by (filter_map said (take i us)))) → AreListed now (filter has_positive_counter (flat_map by (filter_map said us)))
  all_listed now end listed = subst (λ (ws : List ℕ). AreListed now (filter has_positive_counter (flat_map by (filter_map said ws)))) (take_all i us end) listed

-- ---- the next below a bound
module _ (bound : Option Ballot) (ts : List Ballot) (p : ℕ) (down : IsDescending ts) (place : IsPlaceUnder bound ts p) where
  from_place : (x : Ballot) (c : Contains ts x) → is_under bound x ≡ true → p ≤ c.0
  from_place x c h = elim (less_or_from c.0 p) [
    | inl l ↦ absurd (true≢false (sym h ∙ (ap (is_under bound) (sym c.2) ∙ place.before c.0 x l)))
    | inr l ↦ l
  ]

  not_above_first : (t : Ballot) → p < length ts → t ≡ get_or ts p t → (x : Ballot) (c : Contains ts x) → (p < c.0) ⊎ (p ≡ c.0) → below t x ≡ false
  not_above_first t within is x c (inl l) =
      below-asym x t (subst (λ y. below y t ≡ true) c.2 (subst (λ y. below (get_or ts c.0 x) y ≡ true) (get_or_default ts p x t within ∙ sym is) (down p c.0 x l c.1)))
  not_above_first t within is x c (inr e) =
      let same : t ≡ x = is ∙ (get_or_default ts p t x within ∙ (ap (λ n. get_or ts n x) e ∙ c.2)) in
      subst (λ y. below t y ≡ false) same (below-self t)

  pub next_there : (t : Ballot) → p < length ts → t ≡ get_or ts p t → Some t ≡ next_under bound ts
  next_there t within is = go (next_under bound ts) (greatest_is_exact None fs)
    where
      fs : List Ballot
      fs = filter (is_under bound) ts

      inside : Contains fs t
      inside = kept_to (is_under bound) ts t (p, within, sym is) (ap (is_under bound) is ∙ place.from p t (omega arith) within)

      first : IsGreatest fs t
      first = record {
        has = is_in fs t inside;
        above = λ x i. let r = kept_from (is_under bound) ts x (is_contained fs x i) in not_above_first t within is x r.0 (less_or_same p r.0.0 (from_place x r.0 r.1));
      }

      go : (o : Option Ballot) → IsGreatestIn fs o → Some t ≡ o
      go None (nothing e) = absurd (none_contained t (subst (λ (ys : List Ballot). Contains ys t) e inside))
      go (Some g) (this a) = ap Some (greatest_is_alone fs t g first a)

  pub next_nowhere : length ts ≤ p → None ≡ next_under bound ts
  next_nowhere end = go (next_under bound ts) (greatest_is_exact None fs)
    where
      fs : List Ballot
      fs = filter (is_under bound) ts

      go : (o : Option Ballot) → IsGreatestIn fs o → None ≡ o
      go None (nothing e) = refl
      go (Some g) (this a) =
          let r = kept_from (is_under bound) ts g (is_contained fs g a.has) in
          let l = from_place g r.0 r.1 in
          let m = r.0.1 in
          absurd (omega (arith, l, m, end))

-- the ballots by a statement are listed, where there is one
abbrev pub HasListed : (Statement → List Ballot) → List Ballot → Option Statement → Type 0
HasListed by listed None = AreListed listed listed
HasListed by listed (Some s) = AreListed listed (listed ++ filter has_positive_counter (by s))

-- they are once they were added
pub has_added : (by : Statement → List Ballot) (s : Statement) (old now : List Ballot) → AreListed now (old ++ filter has_positive_counter (by s)) → HasListed by now (Some s)
has_added by s old now added x = (
  λ c. Contains-append_left now (filter has_positive_counter (by s)) x c,
  λ c. elim (Contains-append_cases now (filter has_positive_counter (by s)) x c) [ inl i ↦ i | inr i ↦ (added x).1 (Contains-append_right old (filter has_positive_counter (by s)) x i) ],
)

-- listed ballots stand for the ballots that they are
pub listed_stand : (listed ts us : List Ballot) → ts ≡ us → AreListed listed ts → FindsAsAmong listed us
listed_stand listed ts us is same bound = same_next bound listed ts same ∙ ap (next_under bound) is
