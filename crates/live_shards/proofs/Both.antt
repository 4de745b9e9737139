-- The entries of two lists by number: which are found, how many they are, and that they ascend.
use Rattle.std.specs.Prelude.{◌≡◌, ◌≢◌, ◌⊎◌, ◌+◌, ◌==◌, ◌∷◌, [], ℕ, Bool, true, false, cond, length, List, Option, Some, None}
use Rattle.std.specs.declared.cmp.Ordering.{Ordering}
use Rattle.std.specs.Ordering.{is_eq, match_ordering, nat_cmp}
use Rattle.std.specs.BTreeMap.{insert_entry, is_at}
use Rattle.std.specs.Map.{lookup}
use Rattle.std.proofs.Common.{◌∙◌, Less, Equal, Greater, refl, sym, ap, subst, inl, inr, arith, true≢false}
use Rattle.std.proofs.lemmas.Bool.Decides.{Decides-eqb}
use Rattle.live_host.specs.Apart.{AreFrom}
use Rattle.live_host.specs.Keeping.{inserted-is-found}
use Rattle.live_host.proofs.Alone.{at-itself, inserted-apart, inserted-ascend, none-below, skipped}
use Rattle.live_shards.specs.Parts.{both_of}

-- ---- what is found
-- what was found, or else this
abbrev pub or_else : {X : Type 0} → Option X → Option X → Option X
or_else None o = o
or_else (Some x) o = Some x

first-found : {X : Type 0} (d : ℕ × X) (ds : List (ℕ × X)) → lookup (is_at (nat_cmp d.0)) (d ∷ ds) ≡ Some d.1
first-found d ds = ap (λ o. cond (is_eq o) (Some d.1) (lookup (is_at (nat_cmp d.0)) ds)) (at-itself d.0)

-- a number is found in the first list, or else in the second
abbrev IsFoundInBoth : {X : Type 0} → ℕ → List (ℕ × X) → List (ℕ × X) → Type 0
IsFoundInBoth g ds es =
    lookup (is_at (nat_cmp g)) (both_of ds es) ≡ or_else (lookup (is_at (nat_cmp g)) ds) (lookup (is_at (nat_cmp g)) es)

pub found-both : {X : Type 0} (g : ℕ) (ds es : List (ℕ × X)) → IsFoundInBoth g ds es
found-both g [] es = refl
found-both {X} g (d ∷ ds) es = by (g == d.0) refl (found-both g ds es)
  where
    by : (same : Bool) → (g == d.0) ≡ same → IsFoundInBoth g ds es → IsFoundInBoth g (d ∷ ds) es
    by true is others =
        let here : g ≡ d.0 = (Decides-eqb g d.0).0 is in
        subst (λ h. IsFoundInBoth h (d ∷ ds) es) (sym here)
        (inserted-is-found (both_of ds es) d.0 d.1
        ∙ sym (ap (λ o. or_else o (lookup (is_at (nat_cmp d.0)) es)) (first-found d ds)))
    by false is others =
        let differ : g ≢ d.0 = λ same. true≢false (sym ((Decides-eqb g d.0).1 same) ∙ is) in
        inserted-apart d.0 g (both_of ds es) d.1 differ ∙ others
        ∙ ap (λ o. or_else o (lookup (is_at (nat_cmp g)) es))
        (sym (skipped g d.0 d.1 (lookup (is_at (nat_cmp g)) ds) differ))

-- ---- the order
pub both-ascend : {X : Type 0} (ds es : List (ℕ × X)) → AreFrom 0 es → AreFrom 0 (both_of ds es)
both-ascend [] es ascend = ascend
both-ascend (d ∷ ds) es ascend =
    inserted-ascend d.0 0 (both_of ds es) d.1 (omega arith) (both-ascend ds es ascend)

-- ---- how many
inserted-counts : {X : Type 0} (g : ℕ) (es : List (ℕ × X)) (x : X) → lookup (is_at (nat_cmp g)) es ≡ None
    → length (insert_entry nat_cmp es g x) ≡ length es + 1
inserted-counts g [] x none = refl
inserted-counts {X} g (e ∷ es) x none = step (nat_cmp g e.0) none (inserted-counts g es x)
  where
    step : (o : Ordering) → cond (is_eq o) (Some e.1) (lookup (is_at (nat_cmp g)) es) ≡ None
        → (lookup (is_at (nat_cmp g)) es ≡ None → length (insert_entry nat_cmp es g x) ≡ length es + 1)
        → length (match_ordering o ((g, x) ∷ e ∷ es) ((e.0, x) ∷ es) (e ∷ insert_entry nat_cmp es g x))
        ≡ length (e ∷ es) + 1
    step Less none others = omega arith
    step Equal none others = absurd (cc)
    step Greater none others = let more = others none in omega (arith, more)

none-behind : {X : Type 0} (b : Bool) (x : X) (o : Option X) → cond b (Some x) o ≡ None → o ≡ None
none-behind true x o none = absurd (cc)
none-behind false x o none = none

-- a number is found in one of the lists at most
abbrev pub IsInOne : {X : Type 0} → ℕ → List (ℕ × X) → List (ℕ × X) → Type 0
IsInOne g ds es = (lookup (is_at (nat_cmp g)) ds ≡ None) ⊎ (lookup (is_at (nat_cmp g)) es ≡ None)

pub both-count : {X : Type 0} (k : ℕ) (ds es : List (ℕ × X)) → AreFrom k ds → ((g : ℕ) → IsInOne g ds es)
    → length (both_of ds es) ≡ length ds + length es
both-count k [] es ascend one = omega arith
both-count {X} k (d ∷ ds) es ascend one =
    let more = both-count (d.0 + 1) ds es ascend.1 (λ g. rest g (one g)) in
    let none : lookup (is_at (nat_cmp d.0)) (both_of ds es) ≡ None =
    found-both d.0 ds es
    ∙ ap (λ o. or_else o (lookup (is_at (nat_cmp d.0)) es)) (none-below d.0 (d.0 + 1) ds ascend.1 (omega arith))
    ∙ other (one d.0) in
    let added = inserted-counts d.0 (both_of ds es) d.1 none in
    omega (arith, more, added)
  where
    rest : (g : ℕ) → IsInOne g (d ∷ ds) es → IsInOne g ds es
    rest g (inl is) = inl (none-behind (is_at (nat_cmp g) d.0) d.1 (lookup (is_at (nat_cmp g)) ds) is)
    rest g (inr is) = inr is

    other : IsInOne d.0 (d ∷ ds) es → lookup (is_at (nat_cmp d.0)) es ≡ None
    other (inl is) = let found = first-found d ds in absurd (cc)
    other (inr is) = is
