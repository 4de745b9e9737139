-- Lists of numbered lines, and what is left of them.
use Rattle.std.specs.Prelude.{◌≡◌, ◌≢◌, ◌+◌, ◌≤◌, ◌&&◌, ◌++◌, not, ℕ, Bool, true, false, cond, List, [], ◌∷◌, map, filter}
use Rattle.std.specs.declared.cmp.Ordering.{Ordering}
use Rattle.std.specs.Ordering.{is_eq, match_ordering, nat_cmp}
use Rattle.std.specs.BTreeMap.{insert_entry, is_at}
use Rattle.std.proofs.Common.{◌∙◌, Less, Equal, Greater, refl, ap, arith}
use Rattle.live_feed.specs.Lasting.{without, without_all}
use Rattle.live_host.specs.Compacted.{AscendWithin}
use Rattle.live_host.proofs.Alone.{IsOrder, at-itself, order-of}

-- ---- what passes tests
pub filter-twice : {X : Type 0} (p q r : X → Bool) → ((x : X) → (q x && p x) ≡ r x) → (xs : List X)
    → filter p (filter q xs) ≡ filter r xs
filter-twice p q r law [] = refl
filter-twice {X} p q r law (x ∷ xs) =
    by (q x) ∙ ap (λ b. cond b (x ∷ filter p (filter q xs)) (filter p (filter q xs))) (law x)
    ∙ ap (λ l. cond (r x) (x ∷ l) l) (filter-twice p q r law xs)
  where
    by : (b : Bool) → filter p (cond b (x ∷ filter q xs) (filter q xs))
        ≡ cond (b && p x) (x ∷ filter p (filter q xs)) (filter p (filter q xs))
    by true = refl
    by false = refl

pub filter-append-one : {X : Type 0} (p : X → Bool) (xs : List X) (x : X)
    → filter p (xs ++ x ∷ []) ≡ filter p xs ++ cond (p x) (x ∷ []) []
filter-append-one p [] x = refl
filter-append-one p (y ∷ xs) x = by (p y) (filter-append-one p xs x)
  where
    by : (b : Bool) → filter p (xs ++ x ∷ []) ≡ filter p xs ++ cond (p x) (x ∷ []) []
        → cond b (y ∷ filter p (xs ++ x ∷ [])) (filter p (xs ++ x ∷ []))
        ≡ cond b (y ∷ filter p xs) (filter p xs) ++ cond (p x) (x ∷ []) []
    by true is = ap (λ l. y ∷ l) is
    by false is = is

pub map-append-one : {X Y : Type 0} (f : X → Y) (xs : List X) (x : X) → map f (xs ++ x ∷ []) ≡ map f xs ++ f x ∷ []
map-append-one f [] x = refl
map-append-one f (y ∷ xs) x = ap (λ l. f y ∷ l) (map-append-one f xs x)

pub filter-none : {X : Type 0} (xs : List X) → filter (λ x. false) xs ≡ []
filter-none [] = refl
filter-none (x ∷ xs) = filter-none xs

-- those that pass a test that no other may pass
pub filter-never : {X : Type 0} (p q : X → Bool) → ((x : X) → (q x && p x) ≡ false) → (xs : List X)
    → filter p (filter q xs) ≡ []
filter-never p q law xs = filter-twice p q (λ x. false) law xs ∙ filter-none xs

-- where none passes a test, all do not
pub none-passes : {X : Type 0} (p : X → Bool) (xs : List X) → filter p xs ≡ [] → filter (λ x. not (p x)) xs ≡ xs
none-passes p [] none = refl
none-passes p (x ∷ xs) none = by (p x) none (none-passes p xs)
  where
    by : (b : Bool) → cond b (x ∷ filter p xs) (filter p xs) ≡ []
        → (filter p xs ≡ [] → filter (λ x. not (p x)) xs ≡ xs)
        → cond (not b) (x ∷ filter (λ x. not (p x)) xs) (filter (λ x. not (p x)) xs) ≡ x ∷ xs
    by true is others = absurd (cc)
    by false is others = ap (λ l. x ∷ l) (others is)

-- ---- numbers
pub not-at : (g h : ℕ) → g ≢ h → is_at (nat_cmp g) h ≡ false
not-at g h apart = by (nat_cmp g h) (order-of g h)
  where
    by : (o : Ordering) → IsOrder g h o → is_eq o ≡ false
    by Less is = refl
    by Equal is = absurd (apart is)
    by Greater is = refl

pub within-more : {X : Type 0} (k n : ℕ) (es : List (ℕ × X)) → AscendWithin k n es → AscendWithin k (n + 1) es
within-more k n [] are = omega (arith, are)
within-more k n (e ∷ es) are = (are.0, within-more (e.0 + 1) n es are.1)

pub within-from : {X : Type 0} (j k n : ℕ) (es : List (ℕ × X)) → j ≤ k → AscendWithin k n es → AscendWithin j n es
within-from j k n [] le are = omega (arith, are, le)
within-from j k n (e ∷ es) le are = let more = are.0 in (omega (arith, more, le), are.1)

-- one more behind them, which stands there by its number
pub inserted-last : {X : Type 0} (k n : ℕ) (es : List (ℕ × X)) (x : X) → AscendWithin k n es
    → insert_entry nat_cmp es n x ≡ es ++ (n, x) ∷ []
inserted-last k n [] x are = refl
inserted-last {X} k n (e ∷ es) x are =
    step (nat_cmp n e.0) (order-of n e.0) (first-below (e.0 + 1) n es are.1) (inserted-last (e.0 + 1) n es x are.1)
  where
    first-below : (j n : ℕ) (es : List (ℕ × X)) → AscendWithin j n es → j ≤ n
    first-below j n [] are = are
    first-below j n (f ∷ es) are = let rest = first-below (f.0 + 1) n es are.1 in let more = are.0 in omega (arith, rest, more)

    step : (o : Ordering) → IsOrder n e.0 o → e.0 + 1 ≤ n → insert_entry nat_cmp es n x ≡ es ++ (n, x) ∷ []
        → match_ordering o ((n, x) ∷ e ∷ es) ((e.0, x) ∷ es) (e ∷ insert_entry nat_cmp es n x) ≡ e ∷ (es ++ (n, x) ∷ [])
    step Less order below others = absurd (omega (arith, order, below))
    step Equal order below others = absurd (omega (arith, order, below))
    step Greater order below others = ap (λ l. e ∷ l) others

pub within-one-more : {X : Type 0} (k n : ℕ) (es : List (ℕ × X)) (x : X) → AscendWithin k n es
    → AscendWithin k (n + 1) (es ++ (n, x) ∷ [])
within-one-more k n [] x are = (are, omega arith)
within-one-more k n (e ∷ es) x are = (are.0, within-one-more (e.0 + 1) n es x are.1)

-- those of the numbered things that pass a test
pub within-filtered : {X Z : Type 0} (pair : Z → ℕ × X) (p : Z → Bool) (k n : ℕ) (zs : List Z) → AscendWithin k n (map pair zs)
    → AscendWithin k n (map pair (filter p zs))
within-filtered pair p k n [] are = are
within-filtered {X} {Z} pair p k n (z ∷ zs) are = by (p z) (within-filtered pair p ((pair z).0 + 1) n zs are.1)
  where
    by : (b : Bool) → AscendWithin ((pair z).0 + 1) n (map pair (filter p zs))
        → AscendWithin k n (map pair (cond b (z ∷ filter p zs) (filter p zs)))
    by true rest = (are.0, rest)
    by false rest =
        let more = are.0 in within-from k ((pair z).0 + 1) n (map pair (filter p zs)) (omega (arith, more)) rest

-- the numbers are from this one on
abbrev AreAbove : ℕ → List ℕ → Type 0
AreAbove k [] = Unit {0}
AreAbove k (n ∷ ns) = (k ≤ n) × AreAbove k ns

above-more : (j k : ℕ) (ns : List ℕ) → j ≤ k → AreAbove k ns → AreAbove j ns
above-more j k [] le are = tt
above-more j k (n ∷ ns) le are = let more = are.0 in (omega (arith, more, le), above-more j k ns le are.1)

abbrev number_by : {X Z : Type 0} → (Z → ℕ × X) → Z → ℕ
number_by pair z = (pair z).0

above-filtered : {X Z : Type 0} (pair : Z → ℕ × X) (p : Z → Bool) (k n : ℕ) (zs : List Z) → AscendWithin k n (map pair zs)
    → AreAbove k (map (number_by pair) (filter p zs))
above-filtered pair p k n [] are = tt
above-filtered {X} {Z} pair p k n (z ∷ zs) are = by (p z) (above-filtered pair p ((pair z).0 + 1) n zs are.1)
  where
    by : (b : Bool) → AreAbove ((pair z).0 + 1) (map (number_by pair) (filter p zs))
        → AreAbove k (map (number_by pair) (cond b (z ∷ filter p zs) (filter p zs)))
    by true rest =
        let more = are.0 in
        (are.0, above-more k ((pair z).0 + 1) (map (number_by pair) (filter p zs)) (omega (arith, more)) rest)
    by false rest =
        let more = are.0 in above-more k ((pair z).0 + 1) (map (number_by pair) (filter p zs)) (omega (arith, more)) rest

-- those of greater numbers are none of the first
first-stays : {X : Type 0} (e : ℕ × X) (ns : List ℕ) (es : List (ℕ × X)) → AreAbove (e.0 + 1) ns
    → without_all ns (e ∷ es) ≡ e ∷ without_all ns es
first-stays e [] es are = refl
first-stays {X} e (n ∷ ns) es are =
    let more = are.0 in
    let apart : n ≢ e.0 = omega (arith, more) in
    ap (without_all ns) (ap (λ b. cond b es (e ∷ without n es)) (not-at n e.0 apart)) ∙ first-stays e ns (without n es) are.1

-- Without the numbers of those that pass a test, all others are left.
pub without-passing : {X Z : Type 0} (pair : Z → ℕ × X) (p : Z → Bool) (k n : ℕ) (zs : List Z) → AscendWithin k n (map pair zs)
    → without_all (map (number_by pair) (filter p zs)) (map pair zs) ≡ map pair (filter (λ z. not (p z)) zs)
without-passing pair p k n [] are = refl
without-passing {X} {Z} pair p k n (z ∷ zs) are =
    by (p z) (above-filtered pair p ((pair z).0 + 1) n zs are.1) (without-passing pair p ((pair z).0 + 1) n zs are.1)
  where
    by : (b : Bool) → AreAbove ((pair z).0 + 1) (map (number_by pair) (filter p zs))
        → without_all (map (number_by pair) (filter p zs)) (map pair zs) ≡ map pair (filter (λ z. not (p z)) zs)
        → without_all (map (number_by pair) (cond b (z ∷ filter p zs) (filter p zs))) (map pair (z ∷ zs))
        ≡ map pair (cond (not b) (z ∷ filter (λ z. not (p z)) zs) (filter (λ z. not (p z)) zs))
    by true above others =
        ap (without_all (map (number_by pair) (filter p zs)))
        (ap (λ o. cond (is_eq o) (map pair zs) (pair z ∷ without (pair z).0 (map pair zs))) (at-itself (pair z).0)) ∙ others
    by false above others =
        first-stays (pair z) (map (number_by pair) (filter p zs)) (map pair zs) above ∙ ap (λ l. pair z ∷ l) others
