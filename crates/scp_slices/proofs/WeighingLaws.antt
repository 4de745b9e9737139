-- Walking down a tree whose names differ finds the weight of each name.
use Rattle.std.proofs.Common.{◌≡◌, ◌≢◌, ℕ, zero, suc, ◌*◌, ◌^◌, ◌<◌, ◌≤◌, Bool, true, false, ◌==◌, cond, List, [], ◌∷◌, ◌++◌, length, get_or, drop, Option, Some, None, option_map, IfSome, filter, refl, sym, ◌∙◌, ap, subst, inl, inr, arith}
use Rattle.std.specs.Prelude.{AllPairs}
use Rattle.std.specs.Option.{option_or}
use Rattle.std.proofs.lemmas.Bool.{cases_Bool, or_cases, or_parts, eqb-true, ne_eqb, false≢true}
use Rattle.std.proofs.lemmas.List.Elements.{filter-append}
use Rattle.std.proofs.Common.{append-nil}
use Rattle.std.proofs.lemmas.List.Folds.{list_any-append, list_any_none}
use Rattle.std.proofs.lemmas.Nat.{mul-le}
use Rattle.scp_types.specs.Trees.{Members, none, node, inner, Slices, names_in, member_count, depth_of, most_members, most_levels, HasThreshold, HaveThresholds}
use Rattle.scp_types.specs.Shape.{members_of}
use Rattle.scp_types.specs.declared.nested.Member.{Member}
use Rattle.scp_types.specs.declared.nested.Member.TheVariants.{Node, Set}
use Rattle.scp_spec.specs.Sets.{among}
use Rattle.scp_spec.specs.Satisfaction.{names}
use Rattle.scp_spec.specs.Weights.{Fraction, inner_sets, share, weight}
use Rattle.scp_slices.specs.Weighing.{whole, part_of, share_in, share_of}

abbrev Differ : List ℕ → Type 0
Differ [] = Unit {0}
Differ (x ∷ xs) = (among xs x ≡ false) × Differ xs

differ_from : (xs : List ℕ) → AllPairs (λ u w. u ≢ w) xs → Differ xs
differ_from [] h = tt
differ_from (x ∷ xs) h = (
  list_any_none (λ y. y == x) xs (λ k d l. ne_eqb _ x (λ e. h 0 (suc k) d (omega arith) (omega arith) (sym e))),
  differ_from xs (λ i j d a b. h (suc i) (suc j) d (omega arith) (omega arith)),
)

-- two parts of names that differ have no name in common
differ_parts : (xs ys : List ℕ) → Differ (xs ++ ys) → Differ xs × Differ ys × ((u : ℕ) → among xs u ≡ true → among ys u ≡ false)
differ_parts [] ys h = (tt, h, λ u i. absurd (false≢true i))
differ_parts (x ∷ xs) ys h =
    let p = or_parts (among xs x) (among ys x) (sym (list_any-append (λ w. w == x) xs ys) ∙ h.0) in
    let r = differ_parts xs ys h.1 in (
      (p.0, r.0),
      r.1,
      λ u i. elim (or_cases (x == u) (among xs u) i) [
        | inl e ↦ subst (λ w. among ys w ≡ false) (eqb-true x u e) p.1
        | inr e ↦ r.2 u e
      ],
    )

abbrev around : ℕ → Slices → Bool
around u s = among (names s) u

-- no set contains a name that the tree lacks
none_around : (ms : Members) (u : ℕ) → among (names_in ms) u ≡ false → filter (around u) (inner_sets ms) ≡ []
none_around none u h = refl
none_around (node w rest) u h = none_around rest u (or_parts (w == u) (among (names_in rest) u) h).1
none_around (inner k own rest) u h =
    let p = or_parts (among (names_in own) u) (among (names_in rest) u) (sym (list_any-append (λ w. w == u) (names_in own) (names_in rest)) ∙ h) in
    rw (p.0, filter-append (around u) (inner_sets own) (inner_sets rest), none_around own u p.0, none_around rest u p.1) refl

abbrev share_among : Members → ℕ → Option Fraction
share_among ms u = cond (among (names_in ms) u) (Some (share (filter (around u) (inner_sets ms)))) None

pub share_is : (ms : Members) (u : ℕ) → Differ (names_in ms) → share_in ms u ≡ share_among ms u
share_is none u h = refl
share_is (node w rest) u h = elim (cases_Bool (w == u)) [
  | inl e ↦ let gone = none_around rest u (subst (λ x. among (names_in rest) x ≡ false) (eqb-true w u e) h.0) in rw (e, gone) refl
  | inr e ↦ rw (e) (share_is rest u h.1)
]
share_is (inner k own rest) u h =
    let d = differ_parts (names_in own) (names_in rest) h in
    let own_is = share_is own u d.0 in
    let rest_is = share_is rest u d.1 in
    let all_is = list_any-append (λ w. w == u) (names_in own) (names_in rest) in
    let kept_is = filter-append (around u) (inner_sets own) (inner_sets rest) in
    elim (cases_Bool (among (names_in own) u)) [
      | inl e ↦ rw (own_is, all_is, e, kept_is, none_around rest u (d.2 u e), append-nil (filter (around u) (inner_sets own))) refl
      | inr e ↦ rw (own_is, rest_is, all_is, e, kept_is, none_around own u e) refl
    ]

-- what the walk finds is the weight
pub share_of_is : (q : Slices) (u : ℕ) → AllPairs (λ v w. v ≢ w) (names q) → share_of q u ≡ weight q u
share_of_is q u h =
    let found = share_is q.members u (differ_from (names q) h) in
    elim (cases_Bool (among (names q) u)) [
      | inl e ↦ rw (found, e) refl
      | inr e ↦ rw (found, e) refl
    ]

-- the bound on both numbers, by how many sets there are around a name
abbrev limit : ℕ → ℕ
limit zero = 1
limit (suc n) = most_members * limit n

abbrev IsWithin : ℕ → Fraction → Type 0
IsWithin n f = (f.numerator ≤ limit n) × (f.denominator ≤ limit n)

limit_positive : (n : ℕ) → 1 ≤ limit n
limit_positive zero = omega arith
limit_positive (suc n) = omega (arith, limit_positive n)

map_within : (n k l : ℕ) (o : Option Fraction) → k ≤ most_members → l ≤ most_members → IfSome o (IsWithin n) → IfSome (option_map (part_of k l) o) (IsWithin (suc n))
map_within n k l None a b h = tt
map_within n k l (Some f) a b h = (mul-le k f.numerator most_members (limit n) a h.0, mul-le l f.denominator most_members (limit n) b h.1)

or_within : (n : ℕ) (o p : Option Fraction) → IfSome o (IsWithin n) → IfSome p (IsWithin n) → IfSome (option_or o p) (IsWithin n)
or_within n None p a b = b
or_within n (Some f) p a b = a

cond_within : (n : ℕ) (b : Bool) (p : Option Fraction) → IfSome p (IsWithin n) → IfSome (cond b (Some whole) p) (IsWithin n)
cond_within n true p h = (limit_positive n, limit_positive n)
cond_within n false p h = h

share_in_within : (ms : Members) (u n : ℕ) → HaveThresholds ms → depth_of ms ≤ n → IfSome (share_in ms u) (IsWithin n)
share_in_within none u n h d = tt
share_in_within (node w rest) u n h d = cond_within n (w == u) (share_in rest u) (share_in_within rest u n h d)
share_in_within (inner k own rest) u zero h d = absurd (omega arith)
share_in_within (inner k own rest) u (suc n) h d =
    or_within (suc n) (option_map (part_of k (member_count own)) (share_in own u)) (share_in rest u)
    (map_within n k (member_count own) (share_in own u) (omega arith) (omega arith) (share_in_within own u n h.1 (omega arith)))
    (share_in_within rest u (suc n) h.2 (omega arith))

-- nine levels of at most 64 members
pub share_of_within : (q : Slices) (u : ℕ) → HasThreshold q.threshold q.members → HaveThresholds q.members → depth_of q.members ≤ most_levels
    → IfSome (share_of q u) (λ f. (f.numerator ≤ 64 ^ 9) × (f.denominator ≤ 64 ^ 9))
share_of_within q u t h d = map_within 8 q.threshold (member_count q.members) (share_in q.members u) (omega arith) (omega arith) (share_in_within q.members u 8 h d)

-- ---- one step of the walk over the members in memory
abbrev pub share_of_member : Member → ℕ → Option Fraction
share_of_member (Node w) u = cond (w == u) (Some whole) None
share_of_member (Set s) u = share_of s u

first_of_cond : (b : Bool) (f : Fraction) (p : Option Fraction) → ◌≡◌ {A = Option Fraction} (cond b (Some whole) None) (Some f) → ◌≡◌ {A = Option Fraction} (cond b (Some whole) p) (Some f)
first_of_cond true f p h = h
first_of_cond false f p h = cc

first_of_or : (o p : Option Fraction) (f : Fraction) → o ≡ Some f → option_or o p ≡ Some f
first_of_or o p f h = rw h refl

share_from : (ms : List Member) (i : ℕ) (d : Member) (u : ℕ) (f : Fraction) → i < length ms → share_of_member (get_or ms i d) u ≡ Some f → share_in (members_of (drop i ms)) u ≡ Some f
share_from [] i d u f h e = absurd (omega arith)
share_from (Node w ∷ rest) zero d u f h e = first_of_cond (w == u) f (share_in (members_of rest) u) e
share_from (Set s ∷ rest) zero d u f h e = first_of_or (share_of s u) (share_in (members_of rest) u) f e
share_from (Node w ∷ rest) (suc i) d u f h e = share_from rest i d u f (omega arith) e
share_from (Set s ∷ rest) (suc i) d u f h e = share_from rest i d u f (omega arith) e

-- what the member of index i gives is what its set gives
pub share_at : (ms : List Member) (i : ℕ) (m : Member) (u : ℕ) (f : Fraction) → i < length ms → m ≡ get_or ms i m → share_of_member m u ≡ Some f → share_in (members_of (drop i ms)) u ≡ Some f
share_at ms i m u f h is e = share_from ms i m u f h (ap (λ x. share_of_member x u) (sym is) ∙ e)

-- and the set's share is a part of it
pub part_is : (q : Slices) (u : ℕ) (n : ℕ) (f : Fraction) → n ≡ member_count q.members → share_in q.members u ≡ Some f → share_of q u ≡ Some (part_of q.threshold n f)
part_is q u n f e h = rw (e, h) refl
