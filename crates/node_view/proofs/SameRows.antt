-- Lists with the same elements: what a search finds and a set holds does not hang on their order.
use Rattle.std.proofs.Common.{◌≡◌, ℕ, ◌≤◌, Bool, true, false, ◌||◌, nat_lt, List, [], ◌∷◌, ◌++◌, Option, Some, None, filter, filter_map, flat_map, min, if◌then◌else◌, refl, sym, ◌∙◌, ap, subst, inl, inr, ◌⊎◌, arith, ◌↔◌}
use Rattle.std.specs.List.{Contains, cons_option}
use Rattle.std.proofs.lemmas.Bool.{cases_Bool, or_cases, or_left, or_right, false≢true, true≢false}
use Rattle.std.proofs.lemmas.Bool.Decides.{nat_tests}
use Rattle.scp_types.specs.declared.ballot.Ballot.{Ballot}
use Rattle.scp_types.specs.declared.statement.Statement.{Statement}
use Rattle.scp_types.specs.Votes.{has_value, same_value}
use Rattle.scp_spec.specs.Candidates.{as_set, greatest, has_positive_counter, values_by}
use Rattle.scp_spec.specs.Extremes.{IsIn, IsGreatestIn}
use Rattle.scp_spec.specs.Extremes.IsGreatestIn.{nothing, this}
use Rattle.scp_spec.proofs.Sets.Contained.{contained_cases, contains_head, contains_tail}
use Rattle.scp_spec.proofs.Ballots.Greatest.{greatest_is_alone, greatest_is_exact}
use Rattle.scp_spec.proofs.Equality.Sameness.{same_value-refl, same_value-true}
use Rattle.scp_spec.proofs.Sets.Finite.{same_test}
use Rattle.scp_spec.proofs.Nominating.ValueSets.{has_all, one_set, set_ascending}
use Rattle.scp_voting.specs.declared.mention.Mention.{Mention}
use Rattle.scp_voting.specs.Mentions.{mentioned_by, mentioned_in}
use Rattle.scp_voting.specs.Searching.{counter_by, is_under, least_above, lesser, next_counter, next_under}
use Rattle.node_view.specs.Watching.{values_in}

-- two lists have the same elements, in any order and any number of times
abbrev pub AreSame : {X : Type 0} → List X → List X → Type 0
AreSame {X} xs ys = (x : X) → Contains xs x ↔ Contains ys x

pub none_contained : {X : Type 0} (x : X) → Contains [] x → ⊥
none_contained x c = let l = c.1 in omega arith

-- ---- what is in a list that is made of another
pub kept_from : {X : Type 0} (p : X → Bool) (xs : List X) (x : X) → Contains (filter p xs) x → Contains xs x × (p x ≡ true)
kept_from p [] x c = absurd (none_contained x c)
kept_from {X} p (y ∷ ys) x c = elim (cases_Bool (p y)) [
  | inl e ↦ elim (contained_cases x y (filter p ys) (rw e at c)) [
    | inl q ↦ (subst (λ z. Contains (y ∷ ys) z) q (contains_head y ys), subst (λ z. p z ≡ true) q e)
    | inr i ↦ let r = kept_from p ys x i in (contains_tail x y ys r.0, r.1)
  ]
  | inr e ↦ let r = kept_from p ys x (rw e at c) in (contains_tail x y ys r.0, r.1)
]

pub kept_to : {X : Type 0} (p : X → Bool) (xs : List X) (x : X) → Contains xs x → p x ≡ true → Contains (filter p xs) x
kept_to p [] x c h = absurd (none_contained x c)
kept_to p (y ∷ ys) x c h = elim (contained_cases x y ys c) [
  | inl q ↦ subst (λ z. Contains (filter p (y ∷ ys)) z) q (rw (ap p q ∙ h) (contains_head y (filter p ys)))
  | inr i ↦ elim (cases_Bool (p y)) [
    | inl e ↦ rw e (contains_tail x y (filter p ys) (kept_to p ys x i h))
    | inr e ↦ rw e (kept_to p ys x i h)
  ]
]

pub found_from : {X Y : Type 0} (f : X → Option Y) (xs : List X) (y : Y) → Contains (filter_map f xs) y → (x : X) × Contains xs x × (f x ≡ Some y)
found_from f [] y c = absurd (none_contained y c)
found_from {X} {Y} f (x ∷ xs) y c = go (f x) refl (found_from f xs y) c
  where
    go : (o : Option Y) → f x ≡ o → (Contains (filter_map f xs) y → (z : X) × Contains xs z × (f z ≡ Some y)) → Contains (cons_option o (filter_map f xs)) y → (z : X) × Contains (x ∷ xs) z × (f z ≡ Some y)
    go None e ih i = let r = ih i in (r.0, contains_tail r.0 x xs r.1, r.2)
    go (Some w) e ih i = elim (contained_cases y w (filter_map f xs) i) [
      | inl q ↦ (x, contains_head x xs, e ∙ ap Some q)
      | inr j ↦ let r = ih j in (r.0, contains_tail r.0 x xs r.1, r.2)
    ]

pub found_to : {X Y : Type 0} (f : X → Option Y) (xs : List X) (x : X) (y : Y) → Contains xs x → f x ≡ Some y → Contains (filter_map f xs) y
found_to f [] x y c h = absurd (none_contained x c)
found_to {X} {Y} f (z ∷ zs) x y c h = elim (contained_cases x z zs c) [
  | inl q ↦ rw (ap f q ∙ h) (contains_head y (filter_map f zs))
  | inr i ↦ go (f z) (found_to f zs x y i h)
]
  where
    go : (o : Option Y) → Contains (filter_map f zs) y → Contains (cons_option o (filter_map f zs)) y
    go None i = i
    go (Some w) i = contains_tail y w (filter_map f zs) i

joined_left : {X : Type 0} (xs ys : List X) (x : X) → Contains xs x → Contains (xs ++ ys) x
joined_left [] ys x c = absurd (none_contained x c)
joined_left (z ∷ zs) ys x c = elim (contained_cases x z zs c) [
  | inl q ↦ subst (λ w. Contains (z ∷ zs ++ ys) w) q (contains_head z (zs ++ ys))
  | inr i ↦ contains_tail x z (zs ++ ys) (joined_left zs ys x i)
]

joined_right : {X : Type 0} (xs ys : List X) (x : X) → Contains ys x → Contains (xs ++ ys) x
joined_right [] ys x c = c
joined_right (z ∷ zs) ys x c = contains_tail x z (zs ++ ys) (joined_right zs ys x c)

joined_from : {X : Type 0} (xs ys : List X) (x : X) → Contains (xs ++ ys) x → Contains xs x ⊎ Contains ys x
joined_from [] ys x c = inr c
joined_from (z ∷ zs) ys x c = elim (contained_cases x z (zs ++ ys) c) [
  | inl q ↦ inl (subst (λ w. Contains (z ∷ zs) w) q (contains_head z zs))
  | inr i ↦ elim (joined_from zs ys x i) [ inl j ↦ inl (contains_tail x z zs j) | inr j ↦ inr j ]
]

pub given_from : {X Y : Type 0} (f : X → List Y) (xs : List X) (y : Y) → Contains (flat_map f xs) y → (x : X) × Contains xs x × Contains (f x) y
given_from f [] y c = absurd (none_contained y c)
given_from f (x ∷ xs) y c = elim (joined_from (f x) (flat_map f xs) y c) [
  | inl i ↦ (x, contains_head x xs, i)
  | inr i ↦ let r = given_from f xs y i in (r.0, contains_tail r.0 x xs r.1, r.2)
]

pub given_to : {X Y : Type 0} (f : X → List Y) (xs : List X) (x : X) (y : Y) → Contains xs x → Contains (f x) y → Contains (flat_map f xs) y
given_to f [] x y c h = absurd (none_contained x c)
given_to f (z ∷ zs) x y c h = elim (contained_cases x z zs c) [
  | inl q ↦ joined_left (f z) (flat_map f zs) y (subst (λ w. Contains (f w) y) (sym q) h)
  | inr i ↦ joined_right (f z) (flat_map f zs) y (given_to f zs x y i h)
]

-- ---- lists with the same elements
pub same_kept : {X : Type 0} (p : X → Bool) (xs ys : List X) → AreSame xs ys → AreSame (filter p xs) (filter p ys)
same_kept p xs ys same x = (
  λ c. let r = kept_from p xs x c in kept_to p ys x ((same x).0 r.0) r.1,
  λ c. let r = kept_from p ys x c in kept_to p xs x ((same x).1 r.0) r.1,
)

same_found : {X Y : Type 0} (f : X → Option Y) (xs ys : List X) → AreSame xs ys → AreSame (filter_map f xs) (filter_map f ys)
same_found f xs ys same y = (
  λ c. let r = found_from f xs y c in found_to f ys r.0 y ((same r.0).0 r.1) r.2,
  λ c. let r = found_from f ys y c in found_to f xs r.0 y ((same r.0).1 r.1) r.2,
)

pub same_given : {X Y : Type 0} (f : X → List Y) (xs ys : List X) → AreSame xs ys → AreSame (flat_map f xs) (flat_map f ys)
same_given f xs ys same y = (
  λ c. let r = given_from f xs y c in given_to f ys r.0 y ((same r.0).0 r.1) r.2,
  λ c. let r = given_from f ys y c in given_to f xs r.0 y ((same r.0).1 r.1) r.2,
)

-- ---- the greatest of the same ballots
pub is_in : (ts : List Ballot) (t : Ballot) → Contains ts t → IsIn t ts
is_in [] t c = none_contained t c
is_in (s ∷ ts) t c = elim (contained_cases t s ts c) [ inl q ↦ inl (sym q) | inr i ↦ inr (is_in ts t i) ]

pub is_contained : (ts : List Ballot) (t : Ballot) → IsIn t ts → Contains ts t
is_contained [] t i = absurd i
is_contained (s ∷ ts) t (inl q) = subst (λ w. Contains (s ∷ ts) w) (sym q) (contains_head s ts)
is_contained (s ∷ ts) t (inr i) = contains_tail t s ts (is_contained ts t i)

same_greatest : (ts us : List Ballot) → AreSame ts us → greatest None ts ≡ greatest None us
same_greatest ts us same = go (greatest None ts) (greatest None us) (greatest_is_exact None ts) (greatest_is_exact None us)
  where
    over : (g : Ballot) → IsIn g ts → IsIn g us
    over g i = is_in us g ((same g).0 (is_contained ts g i))

    back : (g : Ballot) → IsIn g us → IsIn g ts
    back g i = is_in ts g ((same g).1 (is_contained us g i))

    go : (o p : Option Ballot) → IsGreatestIn ts o → IsGreatestIn us p → o ≡ p
    go None None a b = refl
    go None (Some h) (nothing e) (this b) = absurd (subst (λ (xs : List Ballot). IsIn h xs) e (back h b.has))
    go (Some g) None (this a) (nothing e) = absurd (subst (λ (xs : List Ballot). IsIn g xs) e (over g a.has))
    go (Some g) (Some h) (this a) (this b) = ap Some (greatest_is_alone us g h (record { has = over g a.has; above = λ t i. a.above t (back t i) }) b)

-- and the next below a bound
pub same_next : (bound : Option Ballot) (ts us : List Ballot) → AreSame ts us → next_under bound ts ≡ next_under bound us
same_next bound ts us same = same_greatest _ _ (same_kept (is_under bound) ts us same)

pub same_mentioned : (mention : Mention) (bound : Option Ballot) (xs ys : List Statement) → AreSame xs ys → next_under bound (mentioned_in mention xs) ≡ next_under bound (mentioned_in mention ys)
same_mentioned mention bound xs ys same =
    let by = mentioned_by mention in
    same_next bound (mentioned_in mention xs) (mentioned_in mention ys) (same_kept has_positive_counter (flat_map by xs) (flat_map by ys) (same_given by xs ys same))

-- ---- the least of the same counters
-- nothing where none is above n; else one of those, and not above any
abbrev IsNext : ℕ → List ℕ → Option ℕ → Type 0
IsNext n ks None = (k : ℕ) → Contains ks k → nat_lt n k ≡ false
IsNext n ks (Some m) = Contains ks m × (nat_lt n m ≡ true) × ((k : ℕ) → Contains ks k → nat_lt n k ≡ true → m ≤ k)

least_is_next : (n : ℕ) (ks : List ℕ) → IsNext n ks (least_above n ks)
unfolding least_above
least_is_next n [] = λ k c. absurd (none_contained k c)
least_is_next n (j ∷ ks) = go (nat_lt n j) (least_above n ks) refl (least_is_next n ks)
  where
    passed : (m : ℕ) → nat_lt n j ≡ false → ((k : ℕ) → Contains ks k → nat_lt n k ≡ true → m ≤ k) → (k : ℕ) → Contains (j ∷ ks) k → nat_lt n k ≡ true → m ≤ k
    passed m e f k c h = elim (contained_cases k j ks c) [
      | inl q ↦ absurd (false≢true (sym e ∙ (ap (nat_lt n) q ∙ h)))
      | inr i ↦ f k i h
    ]

    lower : (m l : ℕ) → l ≤ j → l ≤ m → ((k : ℕ) → Contains ks k → nat_lt n k ≡ true → m ≤ k) → (k : ℕ) → Contains (j ∷ ks) k → nat_lt n k ≡ true → l ≤ k
    lower m l a b f k c h = elim (contained_cases k j ks c) [
      | inl q ↦ subst (λ i. l ≤ i) q a
      | inr i ↦ let r = f k i h in omega (arith, b, r)
    ]

    one_of : (m : ℕ) → nat_lt n j ≡ true → Contains ks m × (nat_lt n m ≡ true) × ((k : ℕ) → Contains ks k → nat_lt n k ≡ true → m ≤ k) → (min j m ≡ j) ⊎ (min j m ≡ m) → IsNext n (j ∷ ks) (Some (min j m))
    one_of m e r (inl q) = subst (λ l. IsNext n (j ∷ ks) (Some l)) (sym q) (contains_head j ks, e, lower m j (omega arith) (under q) r.2)
      where
        under : min j m ≡ j → j ≤ m
        under q = omega (arith, q)
    one_of m e r (inr q) = subst (λ l. IsNext n (j ∷ ks) (Some l)) (sym q) (contains_tail m j ks r.0, r.1, lower m m (under q) (omega arith) r.2)
      where
        under : min j m ≡ m → m ≤ j
        under q = omega (arith, q)

    either : (j m : ℕ) → (min j m ≡ j) ⊎ (min j m ≡ m)
    either j m = elim (cases_Bool (nat_lt j m)) [ inl e ↦ inl (left j m e) | inr e ↦ inr (right j m e) ]
      where
        left : (j m : ℕ) → nat_lt j m ≡ true → min j m ≡ j
        left j m e = grind (arith, nat_tests)

        right : (j m : ℕ) → nat_lt j m ≡ false → min j m ≡ m
        right j m e = grind (arith, nat_tests)

    go : (b : Bool) (o : Option ℕ) → nat_lt n j ≡ b → IsNext n ks o → IsNext n (j ∷ ks) (if b then lesser j o else o)
    go true None e f = (
      contains_head j ks,
      e,
      λ k c h. elim (contained_cases k j ks c) [
        | inl q ↦ subst (λ i. j ≤ i) q (omega arith)
        | inr i ↦ absurd (true≢false (sym h ∙ f k i))
      ],
    )
    go true (Some m) e f = one_of m e f (either j m)
    go false None e f = λ k c. elim (contained_cases k j ks c) [ inl q ↦ ap (nat_lt n) (sym q) ∙ e | inr i ↦ f k i ]
    go false (Some m) e f = (contains_tail m j ks f.0, f.1, passed m e f.2)

same_least : (n : ℕ) (js ks : List ℕ) → AreSame js ks → least_above n js ≡ least_above n ks
same_least n js ks same = go (least_above n js) (least_above n ks) (least_is_next n js) (least_is_next n ks)
  where
    one : (a b : ℕ) → a ≤ b → b ≤ a → a ≡ b
    one a b h k = omega (arith, h, k)

    go : (o p : Option ℕ) → IsNext n js o → IsNext n ks p → o ≡ p
    go None None a b = refl
    go None (Some m) a b = absurd (true≢false (sym b.1 ∙ a m ((same m).1 b.0)))
    go (Some m) None a b = absurd (true≢false (sym a.1 ∙ b m ((same m).0 a.0)))
    go (Some l) (Some m) a b = ap Some (one l m (a.2 m ((same m).1 b.0) b.1) (b.2 l ((same l).0 a.0) a.1))

pub same_counter : (n : ℕ) (xs ys : List Statement) → AreSame xs ys → next_counter n xs ≡ next_counter n ys
same_counter n xs ys same = same_least n (filter_map counter_by xs) (filter_map counter_by ys) (same_found counter_by xs ys same)

-- ---- the set of the same values
pub has_from : (vs : List (List ℕ)) (z : List ℕ) → has_value vs z ≡ true → Contains vs z
has_from [] z h = absurd (false≢true h)
has_from (v ∷ vs) z h = elim (or_cases (same_value v z) (has_value vs z) h) [
  | inl e ↦ subst (λ w. Contains (v ∷ vs) w) (same_value-true v z e) (contains_head v vs)
  | inr e ↦ contains_tail z v vs (has_from vs z e)
]

pub has_to : (vs : List (List ℕ)) (z : List ℕ) → Contains vs z → has_value vs z ≡ true
has_to [] z c = absurd (none_contained z c)
has_to (v ∷ vs) z c = elim (contained_cases z v vs c) [
  | inl q ↦ or_left (same_value v z) (has_value vs z) (subst (λ w. same_value v w ≡ true) q (same_value-refl v))
  | inr i ↦ or_right (same_value v z) (has_value vs z) (has_to vs z i)
]

pub same_set : (vs ws : List (List ℕ)) → AreSame vs ws → as_set vs ≡ as_set ws
same_set vs ws same = one_set (as_set vs) (as_set ws) (set_ascending vs) (set_ascending ws) (λ z. has_all vs [] z ∙ ap (λ b. b || false) (one_test z) ∙ sym (has_all ws [] z))
  where
    one_test : (z : List ℕ) → has_value vs z ≡ has_value ws z
    one_test z = same_test (has_value vs z) (has_value ws z) (λ h. has_to ws z ((same z).0 (has_from vs z h))) (λ h. has_to vs z ((same z).1 (has_from ws z h)))

pub same_values : (xs ys : List Statement) → AreSame xs ys → values_in xs ≡ values_in ys
same_values xs ys same = same_set (flat_map values_by xs) (flat_map values_by ys) (same_given values_by xs ys same)
