-- Lists by number, with one more, one changed and one gone.
use Rattle.std.proofs.Common.{◌≡◌, ◌∙◌, ◌==◌, ◌||◌, ◌+◌, ◌≤◌, ℕ, suc, Bool, true, false, nat_lt, cond, List, [], ◌∷◌, length, Option, Some, None, is_some, if◌then◌else◌, refl, sym, ap, arith}
use Rattle.std.specs.List.{list_any}
use Rattle.std.proofs.lemmas.Bool.{eqb-true, eq-eqb, false≢true, ltb-true, or_parts}
use Rattle.std.specs.Ordering.{nat_cmp, is_eq}
use Rattle.std.proofs.Common.{Less, Equal, Greater}
use Rattle.std.specs.BTreeMap.{insert_entry, is_at}
use Rattle.std.specs.BTreeSet.{insert_key}
use Rattle.std.specs.Map.{remove_entry, set_value}
use Rattle.line_run.specs.ByJournals.{StandOnce, at_number}

-- ---- tests of numbers

pub equal-self : (n : ℕ) → (n == n) ≡ true
equal-self n = eq-eqb n n refl

pub equal-flip : (a b : ℕ) → (a == b) ≡ (b == a)
equal-flip a b = go (a == b) (b == a) refl refl
  where
    go : (p q : Bool) → (a == b) ≡ p → (b == a) ≡ q → p ≡ q
    go true true e f = refl
    go false false e f = refl
    go true false e f = absurd (false≢true (sym f ∙ eq-eqb b a (sym (eqb-true a b e))))
    go false true e f = absurd (false≢true (sym e ∙ eq-eqb a b (sym (eqb-true b a f))))

-- what is equal to one number is equal to another just where the two are equal
pub equal-as : (a b c : ℕ) → (a == b) ≡ true → (a == c) ≡ (b == c)
equal-as a b c e = ap (λ n. n == c) (eqb-true a b e)

below-differs : (a b : ℕ) → suc a ≤ b → a ≡ b → ⊥
below-differs a b h g = omega (arith, h, g)

pub is-at : (n k : ℕ) → is_at (nat_cmp n) k ≡ (n == k)
is-at n k = go (nat_lt n k) (n == k) refl refl
  where
    go : (lt eq : Bool) → nat_lt n k ≡ lt → (n == k) ≡ eq → is_eq (cond lt Less (cond eq Equal Greater)) ≡ eq
    go true true e f = absurd (below-differs n k (ltb-true n k e) (eqb-true n k f))
    go true false e f = refl
    go false true e f = refl
    go false false e f = refl

-- the three ways in which a number stands to another
data Stands (k n : ℕ) : Type 0 where
  before : nat_lt k n ≡ true → (k == n) ≡ false → Stands k n
  same : nat_lt k n ≡ false → (k == n) ≡ true → Stands k n
  behind : nat_lt k n ≡ false → (k == n) ≡ false → Stands k n

stands : (k n : ℕ) → Stands k n
stands k n = go (nat_lt k n) (k == n) refl refl
  where
    go : (lt eq : Bool) → nat_lt k n ≡ lt → (k == n) ≡ eq → Stands k n
    go true true e f = absurd (below-differs k n (ltb-true k n e) (eqb-true k n f))
    go true false e f = before e f
    go false true e f = same e f
    go false false e f = behind e f

-- ---- the first and the others

module _ {X : Type 0} (n : ℕ) where
  pub at-first : (e : ℕ × X) (es : List (ℕ × X)) → (n == e.0) ≡ true → at_number (e ∷ es) n ≡ Some e.1
  at-first e es h = rw (is-at n e.0, h) refl

  pub at-later : (e : ℕ × X) (es : List (ℕ × X)) → (n == e.0) ≡ false → at_number (e ∷ es) n ≡ at_number es n
  at-later e es h = rw (is-at n e.0, h) refl

  -- what stands at each number of a list with one more in front
  at-front : (k : ℕ) (v : X) (es : List (ℕ × X)) → at_number ((k, v) ∷ es) n ≡ (if k == n then Some v else at_number es n)
  at-front k v es = go (k == n) refl
    where
      go : (b : Bool) → (k == n) ≡ b → at_number ((k, v) ∷ es) n ≡ (if b then Some v else at_number es n)
      go true h = at-first (k, v) es (equal-flip n k ∙ h)
      go false h = at-later (k, v) es (equal-flip n k ∙ h)

  -- of one whose first stands at the number k, and is replaced
  at-own : (k : ℕ) (v : X) (e : ℕ × X) (es : List (ℕ × X)) → (k == e.0) ≡ true → at_number ((e.0, v) ∷ es) n ≡ (if k == n then Some v else at_number (e ∷ es) n)
  at-own k v e es eq = go (k == n) refl
    where
      go : (b : Bool) → (k == n) ≡ b → at_number ((e.0, v) ∷ es) n ≡ (if b then Some v else at_number (e ∷ es) n)
      go true h = at-first (e.0, v) es (equal-flip n e.0 ∙ sym (equal-as k e.0 n eq) ∙ h)
      go false h =
          let other : (n == e.0) ≡ false = equal-flip n e.0 ∙ sym (equal-as k e.0 n eq) ∙ h in
          at-later (e.0, v) es other ∙ sym (at-later e es other)

  -- of one whose first stands at another, and stays, where behind it this stands at k from now on
  at-behind : (k : ℕ) (o : Option X) (e : ℕ × X) (es now : List (ℕ × X)) → (k == e.0) ≡ false → at_number now n ≡ (if k == n then o else at_number es n)
      → at_number (e ∷ now) n ≡ (if k == n then o else at_number (e ∷ es) n)
  at-behind k o e es now eq rest = go (n == e.0) refl
    where
      go : (b : Bool) → (n == e.0) ≡ b → at_number (e ∷ now) n ≡ (if k == n then o else at_number (e ∷ es) n)
      go true h =
          let other : (k == n) ≡ false = equal-flip k n ∙ equal-as n e.0 k h ∙ equal-flip e.0 k ∙ eq in
          at-first e now h ∙ rw other (sym (at-first e es h))
      go false h = at-later e now h ∙ rest ∙ ap (λ p. if k == n then o else p) (sym (at-later e es h))

-- ---- one more

module _ {X : Type 0} (k : ℕ) (v : X) where
  pub at-inserted : (n : ℕ) (es : List (ℕ × X)) → at_number (insert_entry nat_cmp es k v) n ≡ (if k == n then Some v else at_number es n)
  at-inserted n [] = at-front n k v []
  at-inserted n (e ∷ es) = by (stands k e.0) (at-inserted n es)
    where
      by : Stands k e.0 → at_number (insert_entry nat_cmp es k v) n ≡ (if k == n then Some v else at_number es n)
          → at_number (insert_entry nat_cmp (e ∷ es) k v) n ≡ (if k == n then Some v else at_number (e ∷ es) n)
      by (before lt eq) ih = rw (lt) (at-front n k v (e ∷ es))
      by (same lt eq) ih = rw (lt, eq) (at-own n k v e es eq)
      by (behind lt eq) ih = rw (lt, eq) (at-behind n k (Some v) e es (insert_entry nat_cmp es k v) eq ih)

  pub once-inserted : (es : List (ℕ × X)) → at_number es k ≡ None → StandOnce es → StandOnce (insert_entry nat_cmp es k v)
  once-inserted [] none once = (refl, tt)
  once-inserted (e ∷ es) none once = by (stands k e.0) (once-inserted es)
    where
      by : Stands k e.0 → (at_number es k ≡ None → StandOnce es → StandOnce (insert_entry nat_cmp es k v)) → StandOnce (insert_entry nat_cmp (e ∷ es) k v)
      by (before lt eq) ih = rw (lt) (none, once)
      by (same lt eq) ih = absurd (let found = at-first k e es eq in let gone : Some e.1 ≡ None = sym found ∙ none in cc)
      by (behind lt eq) ih =
          rw (lt, eq) (
            at-inserted e.0 es ∙ rw eq once.0,
            ih (sym (at-later k e es eq) ∙ none) once.1,
          )

  pub length-inserted : (es : List (ℕ × X)) → length (insert_entry nat_cmp es k v) ≤ length es + 1
  length-inserted [] = omega arith
  length-inserted (e ∷ es) = by (stands k e.0) (length-inserted es)
    where
      by : Stands k e.0 → length (insert_entry nat_cmp es k v) ≤ length es + 1 → length (insert_entry nat_cmp (e ∷ es) k v) ≤ suc (length es) + 1
      by (before lt eq) ih = rw (lt) (omega arith)
      by (same lt eq) ih = rw (lt, eq) (omega arith)
      by (behind lt eq) ih = rw (lt, eq) (omega (arith, ih))

-- ---- one changed

module _ {X : Type 0} (k : ℕ) where
  pub at-set : (w : X) (n : ℕ) (es : List (ℕ × X)) → is_some (at_number es k) ≡ true → at_number (set_value (is_at (nat_cmp k)) es w) n ≡ (if k == n then Some w else at_number es n)
  at-set w n [] there = absurd (false≢true there)
  at-set w n (e ∷ es) there = by (k == e.0) refl (at-set w n es)
    where
      by : (b : Bool) → (k == e.0) ≡ b → (is_some (at_number es k) ≡ true → at_number (set_value (is_at (nat_cmp k)) es w) n ≡ (if k == n then Some w else at_number es n))
          → at_number (set_value (is_at (nat_cmp k)) (e ∷ es) w) n ≡ (if k == n then Some w else at_number (e ∷ es) n)
      by true eq ih = rw (is-at k e.0, eq) (at-own n k w e es eq)
      by false eq ih =
          rw (is-at k e.0, eq) (at-behind n k (Some w) e es (set_value (is_at (nat_cmp k)) es w) eq (ih (sym (ap (λ o. is_some o) (at-later k e es eq)) ∙ there)))

  pub once-set : (w : X) (es : List (ℕ × X)) → is_some (at_number es k) ≡ true → StandOnce es → StandOnce (set_value (is_at (nat_cmp k)) es w)
  once-set w [] there once = tt
  once-set w (e ∷ es) there once = by (k == e.0) refl (once-set w es)
    where
      by : (b : Bool) → (k == e.0) ≡ b → (is_some (at_number es k) ≡ true → StandOnce es → StandOnce (set_value (is_at (nat_cmp k)) es w)) → StandOnce (set_value (is_at (nat_cmp k)) (e ∷ es) w)
      by true eq ih = rw (is-at k e.0, eq) once
      by false eq ih =
          let more : is_some (at_number es k) ≡ true = sym (ap (λ o. is_some o) (at-later k e es eq)) ∙ there in
          rw (is-at k e.0, eq) (at-set w e.0 es more ∙ rw eq once.0, ih more once.1)

  pub length-set : (w : X) (es : List (ℕ × X)) → length (set_value (is_at (nat_cmp k)) es w) ≡ length es
  length-set w [] = refl
  length-set w (e ∷ es) = by (is_at (nat_cmp k) e.0) (length-set w es)
    where
      by : (b : Bool) → length (set_value (is_at (nat_cmp k)) es w) ≡ length es → length (cond b ((e.0, w) ∷ es) (e ∷ set_value (is_at (nat_cmp k)) es w)) ≡ suc (length es)
      by true ih = refl
      by false ih = ap suc ih

  -- ---- one gone

  pub at-removed : (n : ℕ) (es : List (ℕ × X)) → StandOnce es → at_number (remove_entry (is_at (nat_cmp k)) es) n ≡ (if k == n then None else at_number es n)
  at-removed n [] once = by (k == n)
    where
      by : (b : Bool) → ◌≡◌ {A = Option X} None (if b then None else None)
      by true = refl
      by false = refl
  at-removed n (e ∷ es) once = by (k == e.0) refl (at-removed n es once.1)
    where
      by : (b : Bool) → (k == e.0) ≡ b → at_number (remove_entry (is_at (nat_cmp k)) es) n ≡ (if k == n then None else at_number es n)
          → at_number (remove_entry (is_at (nat_cmp k)) (e ∷ es)) n ≡ (if k == n then None else at_number (e ∷ es) n)
      by true eq ih = rw (is-at k e.0, eq) (go (k == n) refl)
        where
          go : (b : Bool) → (k == n) ≡ b → at_number es n ≡ (if b then None else at_number (e ∷ es) n)
          go true h = ap (at_number es) (sym (eqb-true k n h) ∙ eqb-true k e.0 eq) ∙ once.0
          go false h = sym (at-later n e es (equal-flip n e.0 ∙ sym (equal-as k e.0 n eq) ∙ h))
      by false eq ih = rw (is-at k e.0, eq) (at-behind n k None e es (remove_entry (is_at (nat_cmp k)) es) eq ih)

  pub once-removed : (es : List (ℕ × X)) → StandOnce es → StandOnce (remove_entry (is_at (nat_cmp k)) es)
  once-removed [] once = tt
  once-removed (e ∷ es) once = by (k == e.0) refl (once-removed es once.1)
    where
      by : (b : Bool) → (k == e.0) ≡ b → StandOnce (remove_entry (is_at (nat_cmp k)) es) → StandOnce (remove_entry (is_at (nat_cmp k)) (e ∷ es))
      by true eq ih = rw (is-at k e.0, eq) once.1
      by false eq ih = rw (is-at k e.0, eq) (at-removed e.0 es once.1 ∙ rw eq once.0, ih)

  pub length-removed : (es : List (ℕ × X)) → is_some (at_number es k) ≡ true → length (remove_entry (is_at (nat_cmp k)) es) + 1 ≡ length es
  length-removed [] there = absurd (false≢true there)
  length-removed (e ∷ es) there = by (k == e.0) refl (length-removed es)
    where
      by : (b : Bool) → (k == e.0) ≡ b → (is_some (at_number es k) ≡ true → length (remove_entry (is_at (nat_cmp k)) es) + 1 ≡ length es) → length (remove_entry (is_at (nat_cmp k)) (e ∷ es)) + 1 ≡ suc (length es)
      by true eq ih = rw (is-at k e.0, eq) (omega arith)
      by false eq ih =
          let less = ih (sym (ap (λ o. is_some o) (at-later k e es eq)) ∙ there) in
          rw (is-at k e.0, eq) (omega (arith, less))

-- ---- lists of numbers, with one more

pub or-swapped : (a b c : Bool) → (a || (b || c)) ≡ (b || (a || c))
or-swapped true true c = refl
or-swapped true false c = refl
or-swapped false true c = refl
or-swapped false false c = refl

module _ (k : ℕ) where
  abbrev Has : List ℕ → ℕ → Bool
  Has us n = list_any (is_at (nat_cmp n)) us

  pub has-inserted : (n : ℕ) (us : List ℕ) → list_any (is_at (nat_cmp n)) (insert_key nat_cmp us k) ≡ ((k == n) || list_any (is_at (nat_cmp n)) us)
  has-inserted n [] = rw (is-at n k, equal-flip n k) refl
  has-inserted n (u ∷ us) = by (stands k u) (has-inserted n us)
    where
      twice : (a b : Bool) → (a || b) ≡ (a || (a || b))
      twice true b = refl
      twice false b = refl

      by : Stands k u → list_any (is_at (nat_cmp n)) (insert_key nat_cmp us k) ≡ ((k == n) || list_any (is_at (nat_cmp n)) us)
          → list_any (is_at (nat_cmp n)) (insert_key nat_cmp (u ∷ us) k) ≡ ((k == n) || list_any (is_at (nat_cmp n)) (u ∷ us))
      by (before lt eq) ih = rw (lt) (ap (λ b. b || list_any (is_at (nat_cmp n)) (u ∷ us)) (is-at n k ∙ equal-flip n k))
      by (same lt eq) ih = rw (lt, eq) (rw (is-at n u ∙ equal-flip n u ∙ sym (equal-as k u n eq)) (twice (k == n) (list_any (is_at (nat_cmp n)) us)))
      by (behind lt eq) ih = rw (lt, eq) (ap (λ b. is_at (nat_cmp n) u || b) ih ∙ or-swapped (is_at (nat_cmp n) u) (k == n) (list_any (is_at (nat_cmp n)) us))

  pub keys-inserted : (us : List ℕ) → list_any (is_at (nat_cmp k)) us ≡ false → length (insert_key nat_cmp us k) ≡ length us + 1
  keys-inserted [] new = omega arith
  keys-inserted (u ∷ us) new = by (stands k u) (or_parts (is_at (nat_cmp k) u) (list_any (is_at (nat_cmp k)) us) new) (keys-inserted us)
    where
      by : Stands k u → (is_at (nat_cmp k) u ≡ false) × (list_any (is_at (nat_cmp k)) us ≡ false) → (list_any (is_at (nat_cmp k)) us ≡ false → length (insert_key nat_cmp us k) ≡ length us + 1)
          → length (insert_key nat_cmp (u ∷ us) k) ≡ suc (length us) + 1
      by (before lt eq) apart ih = rw (lt) (omega arith)
      by (same lt eq) apart ih = absurd (false≢true (sym apart.0 ∙ is-at k u ∙ eq))
      by (behind lt eq) apart ih = let more = ih apart.1 in rw (lt, eq) (omega (arith, more))
