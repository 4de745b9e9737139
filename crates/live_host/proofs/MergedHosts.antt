-- Hosts are alike by their networks: two ascending lists whose entries are found alike have them one by one.
use Rattle.std.specs.Prelude.{◌≡◌, ◌≢◌, ◌+◌, ◌<◌, ◌==◌, ◌∷◌, [], ℕ, Bool, true, false, List, Option, Some, None}
use Rattle.std.specs.declared.cmp.Ordering.{Ordering}
use Rattle.std.specs.Ordering.{is_eq, nat_cmp}
use Rattle.std.specs.BTreeMap.{is_at}
use Rattle.std.specs.Map.{lookup}
use Rattle.std.proofs.Common.{◌∙◌, Less, Equal, Greater, refl, sym, ap, subst, arith, true≢false, cond}
use Rattle.std.proofs.lemmas.Bool.Decides.{Decides-eqb}
use Rattle.host_network.specs.Standing.{Machine}
use Rattle.line_request.specs.Outlines.{Outlined}
use Rattle.live_host.specs.Apart.{AreFrom}
use Rattle.live_host.specs.Futures.{AreAllAlike, IsAlike}
use Rattle.live_host.specs.Futures.AreAllAlike.{both_run, none_runs}
use Rattle.live_host.specs.Merging.{AreBothAlike, HostsAreAlikeByParts}
use Rattle.live_host.proofs.Alone.{IsOrder, at-itself, none-below, order-of, skipped}

-- of both there is none, or two that are related
abbrev AreBoth : {X : Type 0} → (X → X → Type 0) → Option X → Option X → Type 0
AreBoth related None None = Unit {0}
AreBoth related None (Some y) = ⊥
AreBoth related (Some x) None = ⊥
AreBoth related (Some x) (Some y) = related x y

-- the first entry is found by its number
pub first-found : {X : Type 0} (g : ℕ) (x : X) (es : List (ℕ × X)) → lookup (is_at (nat_cmp g)) ((g, x) ∷ es) ≡ Some x
first-found g x es = ap (λ o. cond (is_eq o) (Some x) (lookup (is_at (nat_cmp g)) es)) (at-itself g)

-- entries are found related, by each number
abbrev AreFoundBoth : {X : Type 0} → (X → X → Type 0) → List (ℕ × X) → List (ℕ × X) → Type 0
AreFoundBoth related es fs = (g : ℕ) → AreBoth related (lookup (is_at (nat_cmp g)) es) (lookup (is_at (nat_cmp g)) fs)

-- one that is found in the first list and not in the second
not-both : {X R : Type 0} (related : X → X → Type 0) (x : X) (o p : Option X) → o ≡ Some x → p ≡ None
    → AreBoth related o p → R
not-both related x None p some none both = absurd (cc)
not-both related x (Some y) None some none both = absurd both
not-both related x (Some y) (Some z) some none both = absurd (cc)

not-both-ways : {X R : Type 0} (related : X → X → Type 0) (x : X) (o p : Option X) → o ≡ None → p ≡ Some x
    → AreBoth related o p → R
not-both-ways related x (Some y) p none some both = absurd (cc)
not-both-ways related x None None none some both = absurd (cc)
not-both-ways related x None (Some z) none some both = absurd both

both-found : {X : Type 0} (related : X → X → Type 0) (x y : X) (o p : Option X) → o ≡ Some x → p ≡ Some y
    → AreBoth related o p → related x y
both-found related x y o p one other both =
    subst (λ o. AreBoth related o (Some y)) one (subst (AreBoth related o) other both)

both-none : {X : Type 0} (related : X → X → Type 0) (o p : Option X) → o ≡ None → p ≡ None → AreBoth related o p
both-none related o p one other =
    subst (λ o. AreBoth related o p) (sym one) (subst (AreBoth related None) (sym other) tt)

-- behind first entries of the same number, entries are found related as before
rest-found : {X : Type 0} (related : X → X → Type 0) (g : ℕ) (x y : X) (es fs : List (ℕ × X)) → AreFrom (g + 1) es
    → AreFrom (g + 1) fs → AreFoundBoth related ((g, x) ∷ es) ((g, y) ∷ fs) → AreFoundBoth related es fs
rest-found related g x y es fs ascend others found h = by (h == g) refl
  where
    by : (same : Bool) → (h == g) ≡ same
        → AreBoth related (lookup (is_at (nat_cmp h)) es) (lookup (is_at (nat_cmp h)) fs)
    by true is =
        let same : h ≡ g = (Decides-eqb h g).0 is in
        let below : h < g + 1 = omega arith in
        both-none related _ _ (none-below h (g + 1) es ascend below) (none-below h (g + 1) fs others below)
    by false is =
        let differ : h ≢ g = λ same. true≢false (sym ((Decides-eqb h g).1 same) ∙ is) in
        subst (AreBoth related (lookup (is_at (nat_cmp h)) es)) (skipped h g y (lookup (is_at (nat_cmp h)) fs) differ)
        (subst (λ o. AreBoth related o (lookup (is_at (nat_cmp h)) ((g, y) ∷ fs)))
        (skipped h g x (lookup (is_at (nat_cmp h)) es) differ) (found h))

-- what holds of empty lists, and of lists with two related entries of the same number more, holds of all such lists
by-entries : {X : Type 0} (related : X → X → Type 0) (holds : List (ℕ × X) → List (ℕ × X) → Type 0) → holds [] []
    → ((g : ℕ) (x y : X) (es fs : List (ℕ × X)) → related x y → holds es fs → holds ((g, x) ∷ es) ((g, y) ∷ fs))
    → (j k : ℕ) (es fs : List (ℕ × X)) → AreFrom j es → AreFrom k fs → AreFoundBoth related es fs → holds es fs
by-entries related holds none both j k [] [] ascend others found = none
by-entries related holds none both j k [] (f ∷ fs) ascend others found =
    not-both-ways related f.1 None _ refl (first-found f.0 f.1 fs) (found f.0)
by-entries related holds none both j k (e ∷ es) [] ascend others found =
    not-both related e.1 _ None (first-found e.0 e.1 es) refl (found e.0)
by-entries {X} related holds none both j k (e ∷ es) (f ∷ fs) ascend others found =
    step (nat_cmp e.0 f.0) (order-of e.0 f.0) (by-entries related holds none both (e.0 + 1) (e.0 + 1) es fs)
  where
    step : (o : Ordering) → IsOrder e.0 f.0 o
        → (AreFrom (e.0 + 1) es → AreFrom (e.0 + 1) fs → AreFoundBoth related es fs → holds es fs)
        → holds (e ∷ es) (f ∷ fs)
    step Less below rest =
        not-both related e.1 _ _ (first-found e.0 e.1 es)
        (none-below e.0 f.0 (f ∷ fs) (omega arith, others.1) below) (found e.0)
    step Greater above rest =
        not-both-ways related f.1 _ _ (none-below f.0 e.0 (e ∷ es) (omega arith, ascend.1) above)
        (first-found f.0 f.1 fs) (found f.0)
    step Equal same rest =
        let number : f.0 ≡ e.0 = sym same in
        let from : AreFrom (e.0 + 1) fs = subst (λ g. AreFrom (g + 1) fs) number others.1 in
        let here : AreFoundBoth related ((e.0, e.1) ∷ es) ((e.0, f.1) ∷ fs) =
        subst (λ g. AreFoundBoth related ((e.0, e.1) ∷ es) ((g, f.1) ∷ fs)) number found in
        let two =
        both-found related e.1 f.1 _ _ (first-found e.0 e.1 es) (first-found e.0 f.1 fs) (here e.0) in
        subst (λ g. holds (e ∷ es) ((g, f.1) ∷ fs)) same
        (both e.0 e.1 f.1 es fs two
        (rest ascend.1 from (rest-found related e.0 e.1 f.1 es fs ascend.1 from here)))

-- ---- networks that wait, and networks that run
same-found : {X : Type 0} (o p : Option X) → p ≡ o → AreBoth (λ (x y : X). y ≡ x) o p
same-found None None is = tt
same-found None (Some y) is = absurd (cc)
same-found (Some x) None is = absurd (cc)
same-found (Some x) (Some y) is = cc

both-alike : (o p : Option Machine) → AreBothAlike o p → AreBoth IsAlike o p
both-alike None None alike = tt
both-alike None (Some n) alike = alike
both-alike (Some m) None alike = alike
both-alike (Some m) (Some n) alike = alike

pub hosts_are_alike_by_parts : HostsAreAlikeByParts
hosts_are_alike_by_parts l other ordered others bytes waiting running = record {
  bytes = bytes;
  waiting = by-entries (λ (x y : Outlined). y ≡ x) (λ es fs. fs ≡ es) refl
      (λ g x y es fs same rest. ap (λ z. (g, z) ∷ fs) same ∙ ap (λ zs. (g, x) ∷ zs) rest) 0 0 l.waiting other.waiting
      ordered.waiting others.waiting (λ g. same-found _ _ (waiting g));
  running = by-entries IsAlike AreAllAlike none_runs (λ g x y es fs alike rest. both_run alike rest) 0 0 l.running
      other.running ordered.running others.running (λ g. both-alike _ _ (running g));
}
