-- The best name that the walk finds is the leader.
use Rattle.std.proofs.Common.{◌≡◌, ◌≢◌, ℕ, suc, ◌*◌, ◌<◌, Bool, true, false, ◌==◌, cond, List, [], ◌∷◌, ◌++◌, length, get_or, map, Option, Some, None, option_map, refl, sym, ◌∙◌, ap, subst, inl, inr, arith}
use Rattle.std.specs.Prelude.{AllPairs}
use Rattle.std.specs.Option.{option_or}
use Rattle.std.proofs.lemmas.Bool.{cases_Bool, eqb-true, ne_eqb, false≢true}
use Rattle.std.proofs.lemmas.Bool.Decides.{nat_tests}
use Rattle.std.proofs.lemmas.List.{map-append}
use Rattle.std.proofs.Math.Nat.{mul_assoc, mul_comm}
use Rattle.scp_types.specs.Trees.{Members, none, node, inner, Slices, names_in, member_count}
use Rattle.scp_spec.specs.Satisfaction.{names}
use Rattle.scp_spec.specs.Weights.{Fraction, weight}
use Rattle.scp_slices.specs.Weighing.{whole, part_of, share_in}
use Rattle.scp_slices.proofs.WeighingLaws.{share_of_is}
use Rattle.scp_spec.specs.Sets.{among}
use Rattle.scp_spec.specs.Leaders.{hash, is_near, neighbours, beats}
use Rattle.node_leaders.specs.Leaders.{IsLeader, weight_for}
use Rattle.node_leaders.specs.Walk.{better, best_among, is_drawn}
use Rattle.node_leaders.proofs.Order.{Beats, IsOrder, rounds_are_orders}
use Rattle.node_leaders.proofs.Near.{near, own_neighbour}

-- ---- the names of a tree with their weights, as a list
abbrev Weighed : Type 0
Weighed = ℕ × Fraction

abbrev weighed : Fraction → Members → List Weighed
weighed f none = []
weighed f (node u rest) = (u, f) ∷ weighed f rest
weighed f (inner k own rest) = weighed (part_of k (member_count own) f) own ++ weighed f rest

abbrev Drawn : Type 0
Drawn = ℕ → Fraction → Bool

abbrev best_of : Drawn → Beats → List Weighed → ℕ → ℕ
best_of drawn beats [] best = best
best_of drawn beats (x ∷ xs) best = best_of drawn beats xs (better drawn beats x.0 x.1 best)

best_of-append : (drawn : Drawn) (beats : Beats) (xs ys : List Weighed) (best : ℕ) → best_of drawn beats (xs ++ ys) best ≡ best_of drawn beats ys (best_of drawn beats xs best)
best_of-append drawn beats [] ys best = refl
best_of-append drawn beats (x ∷ xs) ys best = best_of-append drawn beats xs ys (better drawn beats x.0 x.1 best)

best_among_is : (drawn : Drawn) (beats : Beats) (f : Fraction) (ms : Members) (best : ℕ) → best_among drawn beats f ms best ≡ best_of drawn beats (weighed f ms) best
best_among_is drawn beats f none best = refl
best_among_is drawn beats f (node u rest) best = best_among_is drawn beats f rest (better drawn beats u f best)
best_among_is drawn beats f (inner k own rest) best =
    let g = part_of k (member_count own) f in
    best_among_is drawn beats f rest (best_among drawn beats g own best)
    ∙ ap (λ (b : ℕ). best_of drawn beats (weighed f rest) b) (best_among_is drawn beats g own best)
    ∙ sym (best_of-append drawn beats (weighed g own) (weighed f rest) best)

-- ---- looking up a weight
abbrev found : List Weighed → ℕ → Option Fraction
found [] u = None
found (x ∷ xs) u = cond (x.0 == u) (Some x.1) (found xs u)

found-append : (xs ys : List Weighed) (u : ℕ) → found (xs ++ ys) u ≡ option_or (found xs u) (found ys u)
found-append [] ys u = refl
found-append (x ∷ xs) ys u = elim (cases_Bool (x.0 == u)) [
  | inl e ↦ rw e refl
  | inr e ↦ rw e (found-append xs ys u)
]

-- a part of a part
abbrev times : Fraction → Fraction → Fraction
times g f = record { numerator = g.numerator * f.numerator; denominator = g.denominator * f.denominator }

swap_factors : (k g f : ℕ) → (k * g) * f ≡ g * (k * f)
swap_factors k g f = rw (mul_comm k g, mul_assoc g k f) refl

times-part : (k n : ℕ) (g f : Fraction) → times (part_of k n g) f ≡ times g (part_of k n f)
times-part k n g f = rw (swap_factors k g.numerator f.numerator, swap_factors n g.denominator f.denominator) refl

times-whole : (g : Fraction) → times g whole ≡ g
times-whole g =
    let upper : g.numerator * 1 ≡ g.numerator = omega arith in
    let lower : g.denominator * 1 ≡ g.denominator = omega arith in
    rw (upper, lower) refl

map_or : (k n : ℕ) (g : Fraction) (o p : Option Fraction) → option_or (option_map (times (part_of k n g)) o) (option_map (times g) p) ≡ option_map (times g) (option_or (option_map (part_of k n) o) p)
map_or k n g None p = refl
map_or k n g (Some f) p = ap (λ (x : Fraction). Some x) (times-part k n g f)

found-weighed : (g : Fraction) (ms : Members) (u : ℕ) → found (weighed g ms) u ≡ option_map (times g) (share_in ms u)
found-weighed g none u = refl
found-weighed g (node w rest) u = elim (cases_Bool (w == u)) [
  | inl e ↦ rw e (ap (λ (x : Fraction). Some x) (sym (times-whole g)))
  | inr e ↦ rw e (found-weighed g rest u)
]
found-weighed g (inner k own rest) u =
    let n = member_count own in
    found-append (weighed (part_of k n g) own) (weighed g rest) u
    ∙ rw (found-weighed (part_of k n g) own u, found-weighed g rest u) (map_or k n g (share_in own u) (share_in rest u))

-- ---- names that differ
abbrev Differ : List Weighed → Type 0
Differ [] = Unit {0}
Differ (x ∷ xs) = (found xs x.0 ≡ None) × Differ xs

names-weighed : (g : Fraction) (ms : Members) → map (λ (x : Weighed). x.0) (weighed g ms) ≡ names_in ms
names-weighed g none = refl
names-weighed g (node w rest) = ap (λ (us : List ℕ). w ∷ us) (names-weighed g rest)
names-weighed g (inner k own rest) =
    map-append (λ (x : Weighed). x.0) (weighed (part_of k (member_count own) g) own) (weighed g rest)
    ∙ rw (names-weighed (part_of k (member_count own) g) own, names-weighed g rest) refl

not_found : (xs : List Weighed) (u : ℕ) → ((i d : ℕ) → i < length (map (λ (x : Weighed). x.0) xs) → get_or (map (λ (x : Weighed). x.0) xs) i d ≢ u) → found xs u ≡ None
not_found [] u h = refl
not_found (x ∷ xs) u h = rw (ne_eqb x.0 u (h 0 0 (omega arith))) (not_found xs u (λ i d l. h (suc i) d (omega arith)))

differ_from : (xs : List Weighed) → AllPairs (λ u w. u ≢ w) (map (λ (x : Weighed). x.0) xs) → Differ xs
differ_from [] h = tt
differ_from (x ∷ xs) h = (
  not_found xs x.0 (λ i d l e. h 0 (suc i) d (omega arith) (omega arith) (sym e)),
  differ_from xs (λ i j d a b. h (suc i) (suc j) d (omega arith) (omega arith)),
)

-- ---- the best is the candidate that was there, or a name that is drawn
found_later : (x : Weighed) (xs : List Weighed) (u : ℕ) (f : Fraction) → found xs x.0 ≡ None → found xs u ≡ Some f → found (x ∷ xs) u ≡ Some f
found_later x xs u f h e = elim (cases_Bool (x.0 == u)) [
  | inl s ↦ let same : x.0 ≡ u = eqb-true x.0 u s in let gone : found xs u ≡ None = subst (λ (w : ℕ). found xs w ≡ None) same h in cc
  | inr s ↦ rw s e
]

better_keeps : (drawn : Drawn) (beats : Beats) (P : ℕ → Type 0) (u : ℕ) (f : Fraction) (best : ℕ) → P best → (drawn u f ≡ true → P u) → P (better drawn beats u f best)
better_keeps drawn beats P u f best p h = elim (cases_Bool (drawn u f)) [
  | inl d ↦ elim (cases_Bool (beats u best)) [
    | inl b ↦ rw (d, b) (h d)
    | inr b ↦ rw (d, b) p
  ]
  | inr d ↦ rw d p
]

best_keeps : (drawn : Drawn) (beats : Beats) (P : ℕ → Type 0) (xs : List Weighed) (best : ℕ) → Differ xs → P best
    → ((u : ℕ) (f : Fraction) → found xs u ≡ Some f → drawn u f ≡ true → P u) → P (best_of drawn beats xs best)
best_keeps drawn beats P [] best d p h = p
best_keeps drawn beats P (x ∷ xs) best d p h =
    best_keeps drawn beats P xs (better drawn beats x.0 x.1 best) d.1
    (better_keeps drawn beats P x.0 x.1 best p (λ t. h x.0 x.1 (rw (own x.0) refl) t))
    (λ u f e t. h u f (found_later x xs u f d.0 e) t)
  where
    own : (u : ℕ) → (u == u) ≡ true
    own u = grind (arith, nat_tests)

-- ---- and no name that is drawn goes before it
better_stays : (drawn : Drawn) (beats : Beats) (o : IsOrder beats) (u : ℕ) (f : Fraction) (best w : ℕ) → beats w best ≡ false → beats w (better drawn beats u f best) ≡ false
better_stays drawn beats o u f best w h = elim (cases_Bool (drawn u f)) [
  | inl d ↦ elim (cases_Bool (beats u best)) [
    | inl b ↦ rw (d, b) (o.behind w u best h b)
    | inr b ↦ rw (d, b) h
  ]
  | inr d ↦ rw d h
]

best_stays : (drawn : Drawn) (beats : Beats) (o : IsOrder beats) (xs : List Weighed) (best w : ℕ) → beats w best ≡ false → beats w (best_of drawn beats xs best) ≡ false
best_stays drawn beats o [] best w h = h
best_stays drawn beats o (x ∷ xs) best w h = best_stays drawn beats o xs (better drawn beats x.0 x.1 best) w (better_stays drawn beats o x.0 x.1 best w h)

better_covers : (drawn : Drawn) (beats : Beats) (o : IsOrder beats) (u : ℕ) (f : Fraction) (best : ℕ) → drawn u f ≡ true → beats u (better drawn beats u f best) ≡ false
better_covers drawn beats o u f best d = elim (cases_Bool (beats u best)) [
  | inl b ↦ rw (d, b) (o.itself u)
  | inr b ↦ rw (d, b) b
]

some_is : (f g : Fraction) → ◌≡◌ {A = Option Fraction} (Some f) (Some g) → f ≡ g
some_is f g e = cc

best_covers : (drawn : Drawn) (beats : Beats) (o : IsOrder beats) (xs : List Weighed) (best w : ℕ) (f : Fraction) → found xs w ≡ Some f → drawn w f ≡ true → beats w (best_of drawn beats xs best) ≡ false
best_covers drawn beats o [] best w f e d = cc
best_covers drawn beats o (x ∷ xs) best w f e d = elim (cases_Bool (x.0 == w)) [
  | inl s ↦ best_stays drawn beats o xs (better drawn beats x.0 x.1 best) w (here (eqb-true x.0 w s) (some_is x.1 f (rw s at e)))
  | inr s ↦ best_covers drawn beats o xs (better drawn beats x.0 x.1 best) w f (rw s at e) d
]
  where
    here : x.0 ≡ w → x.1 ≡ f → beats w (better drawn beats x.0 x.1 best) ≡ false
    here same weight =
        let drawn_here : drawn x.0 x.1 ≡ true = subst (λ (u : ℕ). drawn u x.1 ≡ true) (sym same) (subst (λ (g : Fraction). drawn w g ≡ true) (sym weight) d) in
        subst (λ (u : ℕ). beats u (better drawn beats x.0 x.1 best) ≡ false) same (better_covers drawn beats o x.0 x.1 best drawn_here)

-- ---- the leader
-- all names of slices with their weights
abbrev all_weighed : Slices → List Weighed
all_weighed q = weighed (part_of q.threshold (member_count q.members) whole) q.members

whole-part : (k n : ℕ) (o : Option Fraction) → option_map (times (part_of k n whole)) o ≡ option_map (part_of k n) o
whole-part k n None = refl
whole-part k n (Some f) =
    let upper : k * 1 ≡ k = omega arith in
    let lower : n * 1 ≡ n = omega arith in
    rw (upper, lower) refl

found_is_weight : (q : Slices) (u : ℕ) → AllPairs (λ v w. v ≢ w) (names q) → found (all_weighed q) u ≡ weight q u
found_is_weight q u h =
    found-weighed (part_of q.threshold (member_count q.members) whole) q.members u
    ∙ whole-part q.threshold (member_count q.members) (share_in q.members u)
    ∙ share_of_is q u h

-- a name that is drawn is a neighbour
other_neighbour : (slot round v : ℕ) (q : Slices) (u : ℕ) (f : Fraction) → weight q u ≡ Some f → is_drawn slot round u f ≡ true → among (neighbours slot round v q) u ≡ true
other_neighbour slot round v q u f e d = elim (cases_Bool (u == v)) [
  | inl s ↦ subst (λ (w : ℕ). among (neighbours slot round v q) w ≡ true) (sym (eqb-true u v s)) (own_neighbour slot round v q)
  | inr s ↦ near slot round v q u ∙ rw (s, e) d
]

-- no name that is near beats the best that is found
unbeaten_by : (slot round u best : ℕ) (q : Slices) (o : Option Fraction) → AllPairs (λ v w. v ≢ w) (names q) → weight q u ≡ o
    → is_near o (hash slot 1 round u) ≡ true → beats slot round u (best_of (is_drawn slot round) (beats slot round) (all_weighed q) best) ≡ false
unbeaten_by slot round u best q None differ e h = absurd (false≢true h)
unbeaten_by slot round u best q (Some f) differ e h =
    best_covers (is_drawn slot round) (beats slot round) (rounds_are_orders slot round) (all_weighed q) best u f (found_is_weight q u differ ∙ e) h

pub leads : (slot round v : ℕ) (q : Slices) → AllPairs (λ u w. u ≢ w) (names q)
    → IsLeader slot round v q (best_among (is_drawn slot round) (beats slot round) (part_of q.threshold (member_count q.members) whole) q.members v)
leads slot round v q differ =
    subst (IsLeader slot round v q) (sym (best_among_is drawn (beats slot round) (part_of q.threshold (member_count q.members) whole) q.members v)) (record {
      neighbour = best_keeps drawn (beats slot round) (λ u. among (neighbours slot round v q) u ≡ true) (all_weighed q) v apart (own_neighbour slot round v q)
          (λ u f e d. other_neighbour slot round v q u f (sym (found_is_weight q u differ) ∙ e) d);
      unbeaten = λ w h. unbeaten w (sym (near slot round v q w) ∙ h);
    })
  where
    drawn : Drawn
    drawn = is_drawn slot round

    order : IsOrder (beats slot round)
    order = rounds_are_orders slot round

    apart : Differ (all_weighed q)
    apart = differ_from (all_weighed q) (subst (λ (us : List ℕ). AllPairs (λ u w. u ≢ w) us) (sym (names-weighed (part_of q.threshold (member_count q.members) whole) q.members)) differ)

    unbeaten : (w : ℕ) → is_near (weight_for v q w) (hash slot 1 round w) ≡ true → beats slot round w (best_of drawn (beats slot round) (all_weighed q) v) ≡ false
    unbeaten w h = elim (cases_Bool (w == v)) [
      | inl s ↦ best_stays drawn (beats slot round) order (all_weighed q) v w (subst (λ (u : ℕ). beats slot round u v ≡ false) (sym (eqb-true w v s)) (order.itself v))
      | inr s ↦ unbeaten_by slot round w v q (weight q w) differ refl (rw s at h)
    ]
