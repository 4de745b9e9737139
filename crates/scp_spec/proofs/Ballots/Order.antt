-- The orders of values and ballots, by tests. `Balloting`, `Nominating`, `Sending`, and the crates `node_rules` and
-- `node_view` stand on it.
use Rattle.std.proofs.Common.{◌≡◌, ℕ, Bool, true, false, ◌&&◌, ◌||◌, ◌==◌, nat_lt, cond, ◌≤◌, ◌⊎◌, arith, List, refl, sym, ◌∙◌, ap, inl, inr}
use Rattle.std.specs.Cmp.{IsTotalOrder}
use Rattle.std.specs.Cmp.Lexicographic.{same_text, texts_ties}
use Rattle.std.proofs.lemmas.Bool.Decides.{nat_tests}
use Rattle.std.specs.Ordering.{is_lt, is_eq, ordering_reverse, ordering_then}
use Rattle.std.specs.declared.cmp.Ordering.{Ordering}
use Rattle.std.specs.declared.cmp.Ordering.TheVariants.{Less, Equal, Greater}
use Rattle.std.proofs.lemmas.Bool.{cases_Bool, true≢false, false≢true}
use Rattle.std.proofs.lemmas.Cmp.{tied_itself, alike_right, on_total, then_total, nat_cmp_total, nat_list_cmp_total}
use Rattle.scp_types.specs.declared.ballot.Ballot.{Ballot}
use Rattle.scp_types.specs.Votes.{same_value}
use Rattle.scp_types.specs.Orders.{bytes_cmp, ballot_cmp}
use Rattle.scp_spec.specs.States.{below}

-- the first value is below the second
abbrev pub less : List ℕ → List ℕ → Bool
less x y = is_lt (bytes_cmp x y)

pub is_less : (o : Ordering) → is_lt o ≡ true → o ≡ Less
is_less Less h = refl
is_less Equal h = absurd (false≢true h)
is_less Greater h = absurd (false≢true h)

module _ {K : Type 0} {R : K → K → Ordering} (order : IsTotalOrder R) where
  pub lt-self : (x : K) → is_lt (R x x) ≡ false
  lt-self x = ap is_lt (tied_itself order x)

  pub lt-trans : (x y z : K) → is_lt (R x y) ≡ true → is_lt (R y z) ≡ true → is_lt (R x z) ≡ true
  lt-trans x y z h k = ap is_lt (order.trans x y z (is_less (R x y) h) (is_less (R y z) k))

  pub lt-asym : (x y : K) → is_lt (R x y) ≡ true → is_lt (R y x) ≡ false
  lt-asym x y h = ap is_lt (order.antisymm y x ∙ ap ordering_reverse (is_less (R x y) h))

  -- x not below y and y not below z: x not below z
  pub lt-up : (x y z : K) → is_lt (R x y) ≡ false → is_lt (R y z) ≡ false → is_lt (R x z) ≡ false
  lt-up x y z h k = go (R y z) refl
    where
      go : (p : Ordering) → R y z ≡ p → is_lt (R x z) ≡ false
      go Less f = absurd (true≢false (sym (ap is_lt f) ∙ k))
      go Equal f = ap is_lt (sym (alike_right order y z x f)) ∙ h
      go Greater f = elim (cases_Bool (is_lt (R x z))) [
        | inl t ↦ absurd
            (true≢false (sym (ap is_lt (order.trans x z y (is_less (R x z) t)
            (order.antisymm z y ∙ ap ordering_reverse f))) ∙ h))
        | inr t ↦ t
      ]

pub ballots_ordered : IsTotalOrder ballot_cmp
ballots_ordered =
    then_total (on_total (λ (b : Ballot). b.counter) nat_cmp_total)
    (on_total (λ (b : Ballot). b.value) nat_list_cmp_total)

-- ---- values
pub less-self : (x : List ℕ) → less x x ≡ false
less-self x = lt-self nat_list_cmp_total x

pub less-trans : (x y z : List ℕ) → less x y ≡ true → less y z ≡ true → less x z ≡ true
less-trans x y z h k = lt-trans nat_list_cmp_total x y z h k

pub less-asym : (x y : List ℕ) → less x y ≡ true → less y x ≡ false
less-asym x y h = lt-asym nat_list_cmp_total x y h

-- of two values that are not one, one is below the other
pub less-total : (x y : List ℕ) → less x y ≡ false → same_value x y ≡ false → less y x ≡ true
less-total x y h k = go (bytes_cmp x y) refl
  where
    go : (o : Ordering) → bytes_cmp x y ≡ o → less y x ≡ true
    go Less e = absurd (true≢false (sym (ap is_lt e) ∙ h))
    go Equal e = absurd (true≢false (sym (texts_ties x y ∙ ap is_eq e) ∙ k))
    go Greater e = ap is_lt (nat_list_cmp_total.antisymm y x ∙ ap ordering_reverse e)

-- ---- ballots
-- below, by counters and then by values
pub below-parts : (a b : Ballot)
    → below a b ≡ (nat_lt a.counter b.counter || ((a.counter == b.counter) && less a.value b.value))
below-parts a b = go (nat_lt a.counter b.counter) (a.counter == b.counter)
  where
    go : (c d : Bool)
        → is_lt (ordering_then (cond c Less (cond d Equal Greater)) (bytes_cmp a.value b.value))
        ≡ (c || (d && less a.value b.value))
    go true d = refl
    go false true = refl
    go false false = refl

pub below-self : (t : Ballot) → below t t ≡ false
below-self t = lt-self ballots_ordered t

-- c is not above b, b not above a: c is not above a
pub below-trans : (a b c : Ballot) → below a b ≡ false → below b c ≡ false → below a c ≡ false
below-trans a b c h k = lt-up ballots_ordered a b c h k

pub below-asym : (a b : Ballot) → below a b ≡ true → below b a ≡ false
below-asym a b h = lt-asym ballots_ordered a b h

pub below-along : (a b c : Ballot) → below a b ≡ true → below b c ≡ true → below a c ≡ true
below-along a b c h k = lt-trans ballots_ordered a b c h k

-- what is below has no greater counter
pub below-counter : (a b : Ballot) → below a b ≡ true → a.counter ≤ b.counter
below-counter a b h = over a.counter b.counter (less a.value b.value) (sym (below-parts a b) ∙ h)
  where
    over : (m n : ℕ) (l : Bool) → (nat_lt m n || ((m == n) && l)) ≡ true → m ≤ n
    over m n true h = grind (arith, nat_tests)
    over m n false h = grind (arith, nat_tests)

-- what is not above has no greater counter
pub not_below-counter : (a b : Ballot) → below a b ≡ false → b.counter ≤ a.counter
not_below-counter a b h = over a.counter b.counter (less a.value b.value) (sym (below-parts a b) ∙ h)
  where
    over : (m n : ℕ) (l : Bool) → (nat_lt m n || ((m == n) && l)) ≡ false → n ≤ m
    over m n true h = grind (arith, nat_tests)
    over m n false h = grind (arith, nat_tests)

-- at a smaller counter, or at none greater with one value, a ballot is not above
pub not_above-value : (a b : Ballot) → b.counter ≤ a.counter → a.value ≡ b.value → below a b ≡ false
not_above-value a b h e =
    below-parts a b ∙ over a.counter b.counter (less a.value b.value) h (ap (λ x. less x b.value) e ∙ less-self b.value)
  where
    over : (m n : ℕ) (l : Bool) → n ≤ m → l ≡ false → (nat_lt m n || ((m == n) && l)) ≡ false
    over m n true h k = absurd (true≢false k)
    over m n false h k = grind (arith, nat_tests)

-- of two ballots neither of which is below the other the values are one
pub one_value : (a b : Ballot) → below a b ≡ false → below b a ≡ false → a.value ≡ b.value
one_value a b h k = elim (cases_Bool (same_value a.value b.value)) [
  | inl e ↦ same_text a.value b.value (sym e)
  | inr e ↦ elim (cases_Bool (less a.value b.value)) [
    | inl l ↦ absurd
        (over a.counter b.counter (less a.value b.value) (less b.value a.value) (sym (below-parts a b) ∙ h)
        (sym (below-parts b a) ∙ k) (inl l))
    | inr l ↦ absurd
        (over a.counter b.counter (less a.value b.value) (less b.value a.value) (sym (below-parts a b) ∙ h)
        (sym (below-parts b a) ∙ k) (inr (less-total a.value b.value l e)))
  ]
]
  where
    over : (m n : ℕ) (l r : Bool) → (nat_lt m n || ((m == n) && l)) ≡ false → (nat_lt n m || ((n == m) && r)) ≡ false
        → (l ≡ true) ⊎ (r ≡ true) → ⊥
    over m n true r h k (inl e) = grind (arith, nat_tests)
    over m n false r h k (inl e) = absurd (false≢true e)
    over m n l true h k (inr e) = grind (arith, nat_tests)
    over m n l false h k (inr e) = absurd (false≢true e)

-- and so are the ballots
pub one_ballot : (a b : Ballot) → below a b ≡ false → below b a ≡ false → a ≡ b
one_ballot a b h k =
    let c = one_counter a.counter b.counter (not_below-counter b a k) (not_below-counter a b h) in
    let x = one_value a b h k in
    λ i. record { counter = c i; value = x i }
  where
    one_counter : (m n : ℕ) → m ≤ n → n ≤ m → m ≡ n
    one_counter m n h k = omega (arith, h, k)
