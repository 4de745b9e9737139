-- Lists of ballots, the greatest of them, and what is not above a ballot. `Balloting`, `Sending` and the crate
-- `node_rules` stand on it.
use Rattle.std.proofs.Common.{◌≡◌, ℕ, zero, suc, ◌+◌, ◌≤◌, max, Bool, true, false, cond, ◌&&◌, ◌||◌, ◌==◌, nat_lt, List, [], ◌∷◌, ◌++◌, Option, Some, None, if◌then◌else◌, filter, flat_map, refl, sym, subst, ◌∙◌, inl, inr, ◌⊎◌, arith}
use Rattle.std.proofs.lemmas.Bool.{cases_Bool, and_parts, true≢false}
use Rattle.std.proofs.lemmas.Bool.Decides.{nat_tests}
use Rattle.scp_types.specs.declared.ballot.Ballot.{Ballot}
use Rattle.scp_types.specs.declared.statement.Statement.{Statement}
pub use Rattle.scp_spec.specs.States.{above, Under}
use Rattle.scp_spec.specs.States.{below, counter_of}
use Rattle.scp_spec.specs.Candidates.{greatest, least_from, lowest}
use Rattle.scp_spec.specs.Balloting.{aborted_by}
use Rattle.scp_spec.specs.Extremes.{IsIn}
use Rattle.scp_spec.proofs.Ballots.Order.{less, less-total, below-parts, below-self, below-trans, below-asym, not_below-counter}
use Rattle.scp_types.specs.Votes.{same_value}
use Rattle.scp_spec.proofs.Equality.Sameness.{same_value-refl}
use Rattle.scp_spec.proofs.Sets.Numbers.{through}

pub above-trans : (p : Option Ballot) (b c : Ballot) → above p b ≡ false → below b c ≡ false → above p c ≡ false
above-trans None b c h k = h
above-trans (Some a) b c h k = below-trans a b c h k

pub under-trans : (h p q : Option Ballot) → Under h p → Under p q → Under h q
under-trans None p q i j = tt
under-trans (Some h) None q i j = absurd (true≢false i)
under-trans (Some h) (Some p) q i j = above-trans q p h j i

pub under-self : (p : Option Ballot) → Under p p
under-self None = tt
under-self (Some p) = below-self p

pick : (a b : Ballot) (c : Bool) → below a b ≡ c
    → (below (if c then b else a) b ≡ false) × (below (if c then b else a) a ≡ false)
pick a b true e = (below-self b, below-asym a b e)
pick a b false e = (e, below-self a)

pub greatest-keeps : (best : Option Ballot) (ts : List Ballot) → Under best (greatest best ts)
unfolding greatest
greatest-keeps best [] = under-self best
greatest-keeps None (b ∷ bs) = tt
greatest-keeps (Some a) (b ∷ bs) =
    above-trans (greatest (Some (if below a b then b else a)) bs) (if below a b then b else a) a
    (greatest-keeps (Some (if below a b then b else a)) bs) (pick a b (below a b) refl).1

pub greatest-above : (best : Option Ballot) (ts : List Ballot) (t : Ballot) → IsIn t ts
    → above (greatest best ts) t ≡ false
unfolding greatest
greatest-above best [] t i = absurd i
greatest-above None (b ∷ bs) t (inl e) =
    subst (λ x. above (greatest (Some b) bs) x ≡ false) (sym e) (greatest-keeps (Some b) bs)
greatest-above None (b ∷ bs) t (inr i) = greatest-above (Some b) bs t i
greatest-above (Some a) (b ∷ bs) t (inl e) =
    subst (λ x. above (greatest (Some (if below a b then b else a)) bs) x ≡ false) (sym e)
    (above-trans (greatest (Some (if below a b then b else a)) bs) (if below a b then b else a) b
    (greatest-keeps (Some (if below a b then b else a)) bs) (pick a b (below a b) refl).0)
greatest-above (Some a) (b ∷ bs) t (inr i) = greatest-above (Some (if below a b then b else a)) bs t i

pub greatest-still : (best : Option Ballot) (ts : List Ballot) → ((t : Ballot) → IsIn t ts → above best t ≡ false)
    → greatest best ts ≡ best
unfolding greatest
greatest-still best [] f = refl
greatest-still None (b ∷ bs) f = absurd (true≢false (f b (inl refl)))
greatest-still (Some a) (b ∷ bs) f =
    let e : below a b ≡ false = f b (inl refl) in rw e (greatest-still (Some a) bs (λ t i. f t (inr i)))

pub greatest-from : (best : Option Ballot) (ts : List Ballot) (g : Ballot) → greatest best ts ≡ Some g
    → (best ≡ Some g) ⊎ IsIn g ts
unfolding greatest
greatest-from best [] g h = inl h
greatest-from None (b ∷ bs) g h = elim (greatest-from (Some b) bs g h) [
  | inl e ↦ let q : g ≡ b = cc in inr (inl q)
  | inr i ↦ inr (inr i)
]
greatest-from (Some a) (b ∷ bs) g h = elim (cases_Bool (below a b)) [
  | inl e ↦ elim (greatest-from (Some b) bs g (rw e at h)) [
    | inl k ↦ let q : g ≡ b = cc in inr (inl q)
    | inr i ↦ inr (inr i)
  ]
  | inr e ↦ elim (greatest-from (Some a) bs g (rw e at h)) [
    | inl k ↦ inl k
    | inr i ↦ inr (inr i)
  ]
]

-- where lists: parts
pub in-left : (t : Ballot) (xs ys : List Ballot) → IsIn t xs → IsIn t (xs ++ ys)
in-left t [] ys i = absurd i
in-left t (x ∷ xs) ys (inl e) = inl e
in-left t (x ∷ xs) ys (inr i) = inr (in-left t xs ys i)

pub in-right : (t : Ballot) (xs ys : List Ballot) → IsIn t ys → IsIn t (xs ++ ys)
in-right t [] ys i = i
in-right t (x ∷ xs) ys i = inr (in-right t xs ys i)

pub in-either : (t : Ballot) (xs ys : List Ballot) → IsIn t (xs ++ ys) → IsIn t xs ⊎ IsIn t ys
in-either t [] ys i = inr i
in-either t (x ∷ xs) ys (inl e) = inl (inl e)
in-either t (x ∷ xs) ys (inr i) = elim (in-either t xs ys i) [
  | inl j ↦ inl (inr j)
  | inr j ↦ inr j
]

pub in-filter : (p : Ballot → Bool) (t : Ballot) (xs : List Ballot) → IsIn t xs → p t ≡ true → IsIn t (filter p xs)
in-filter p t [] i h = i
in-filter p t (x ∷ xs) (inl e) h = let k : p x ≡ true = subst (λ y. p y ≡ true) e h in rw k (inl e)
in-filter p t (x ∷ xs) (inr i) h = elim (cases_Bool (p x)) [
  | inl k ↦ rw k (inr (in-filter p t xs i h))
  | inr k ↦ rw k (in-filter p t xs i h)
]

pub from-filter : (p : Ballot → Bool) (t : Ballot) (xs : List Ballot) → IsIn t (filter p xs) → IsIn t xs × (p t ≡ true)
from-filter p t [] i = absurd i
from-filter p t (x ∷ xs) i = go (p x) refl i (λ j. from-filter p t xs j)
  where
    go : (c : Bool) → p x ≡ c → IsIn t (cond c (x ∷ filter p xs) (filter p xs))
        → (IsIn t (filter p xs) → IsIn t xs × (p t ≡ true)) → IsIn t (x ∷ xs) × (p t ≡ true)
    go true k (inl e) ih = (inl e, subst (λ y. p y ≡ true) (sym e) k)
    go true k (inr j) ih = let r = ih j in (inr r.0, r.1)
    go false k j ih = let r = ih j in (inr r.0, r.1)

-- the greatest of those that pass is one of them
pub greatest-of : (p : Ballot → Bool) (xs : List Ballot) (t : Ballot) → greatest None (filter p xs) ≡ Some t
    → IsIn t xs × (p t ≡ true)
greatest-of p xs t e = elim (greatest-from None (filter p xs) t e) [
  | inl k ↦ cc
  | inr i ↦ from-filter p t xs i
]

pub flat_map-append : (f : Statement → List Ballot) (xs ys : List Statement) (t : Ballot)
    → IsIn t (flat_map f (xs ++ ys)) → IsIn t (flat_map f xs) ⊎ IsIn t (flat_map f ys)
flat_map-append f [] ys t i = inr i
flat_map-append f (x ∷ xs) ys t i = elim (in-either t (f x) (flat_map f (xs ++ ys)) i) [
  | inl j ↦ inl (in-left t (f x) (flat_map f xs) j)
  | inr j ↦ elim (flat_map-append f xs ys t j) [
    | inl k ↦ inl (in-right t (f x) (flat_map f xs) k)
    | inr k ↦ inr k
  ]
]

pub flat_map-left : (f : Statement → List Ballot) (xs ys : List Statement) (t : Ballot) → IsIn t (flat_map f xs)
    → IsIn t (flat_map f (xs ++ ys))
flat_map-left f [] ys t i = absurd i
flat_map-left f (x ∷ xs) ys t i = elim (in-either t (f x) (flat_map f xs) i) [
  | inl j ↦ in-left t (f x) (flat_map f (xs ++ ys)) j
  | inr j ↦ in-right t (f x) (flat_map f (xs ++ ys)) (flat_map-left f xs ys t j)
]

pub flat_map-right : (f : Statement → List Ballot) (xs ys : List Statement) (t : Ballot) → IsIn t (flat_map f ys)
    → IsIn t (flat_map f (xs ++ ys))
flat_map-right f [] ys t i = i
flat_map-right f (x ∷ xs) ys t i = in-right t (f x) (flat_map f (xs ++ ys)) (flat_map-right f xs ys t i)

-- what is aborted is not above p
pub aborted-by : (o n : Option Ballot) (a : ℕ) → a ≤ counter_of o → Under o n → aborted_by o n a ≤ counter_of n
unfolding aborted_by
aborted-by None None a h u = h
aborted-by None (Some p) a h u = omega (arith, h)
aborted-by (Some o) None a h u = absurd (true≢false u)
aborted-by (Some o) (Some p) a h u = elim (cases_Bool (same_value o.value p.value)) [
  | inl e ↦ rw e (through a o.counter p.counter h (not_below-counter p o u))
  | inr e ↦ rw e (elim (cases_Bool (less o.value p.value)) [
    | inl l ↦ rw l (most a o.counter p.counter h (not_below-counter p o u))
    | inr l ↦ rw l
        (past a o.counter p.counter (less p.value o.value) h (sym (below-parts p o) ∙ u)
        (less-total o.value p.value l e))
  ])
]
  where
    most : (a m n : ℕ) → a ≤ m → m ≤ n → max a m ≤ n
    most a m n h k = omega (arith, h, k)

    past : (a m n : ℕ) (l : Bool) → a ≤ m → (nat_lt n m || ((n == m) && l)) ≡ false → l ≡ true → max a (m + 1) ≤ n
    past a m n true h u k = grind (arith, nat_tests)
    past a m n false h u k = absurd (true≢false (sym k))

pub aborted-same : (o : Option Ballot) (a : ℕ) → aborted_by o o a ≡ a
unfolding aborted_by
aborted-same None a = refl
aborted-same (Some o) a = let e : same_value o.value o.value ≡ true = same_value-refl o.value in rw e refl

-- the least number, from n on
pub least_from-low : (fuel n : ℕ) (test : ℕ → Bool) → n ≤ least_from fuel n test
unfolding least_from
least_from-low zero n test = omega arith
least_from-low (suc fuel) n test = let k : n + 1 ≤ least_from fuel (n + 1) test = least_from-low fuel (n + 1) test in
    elim (cases_Bool (test n)) [
      | inl e ↦ rw e (omega arith)
      | inr e ↦ rw e (omega (arith, k))
    ]

pub least_from-ends : (fuel n : ℕ) (test : ℕ → Bool)
    → (test (least_from fuel n test) ≡ true) ⊎ (n + fuel ≤ least_from fuel n test)
unfolding least_from
least_from-ends zero n test = inr (omega arith)
least_from-ends (suc fuel) n test = let k = least_from-ends fuel (n + 1) test in elim (cases_Bool (test n)) [
  | inl e ↦ rw e (inl e)
  | inr e ↦ rw e (elim k [
    | inl j ↦ inl j
    | inr j ↦ inr (omega (arith, j))
  ])
]

pub least_from-still : (fuel n : ℕ) (test : ℕ → Bool) → (fuel ≡ 0) ⊎ (test n ≡ true) → least_from fuel n test ≡ n
unfolding least_from
least_from-still zero n test h = refl
least_from-still (suc fuel) n test (inl h) = omega (arith, h)
least_from-still (suc fuel) n test (inr h) = rw h refl

pub lowest-low : (test : ℕ → Bool) (x : List ℕ) (low : ℕ) (ts : List Ballot) → lowest test x low ts ≤ low
unfolding lowest
lowest-low test x low [] = omega arith
lowest-low test x low (t ∷ ts) = elim (cases_Bool ((same_value t.value x) && nat_lt t.counter low && test t.counter)) [
  | inl e ↦ rw e
      (let k = lowest-low test x t.counter ts in
      let q = and_parts ((same_value t.value x) && nat_lt t.counter low) (test t.counter) e in let r =
      and_parts (same_value t.value x) (nat_lt t.counter low) q.0 in
      below_le _ t.counter low k r.1)
  | inr e ↦ rw e (lowest-low test x low ts)
]
  where
    below_le : (a b c : ℕ) → a ≤ b → nat_lt b c ≡ true → a ≤ c
    below_le a b c h k = grind (arith, nat_tests)
