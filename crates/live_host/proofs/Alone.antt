-- Entries by number, and the host that has one network alone.
use Rattle.std.specs.Prelude.{◌≡◌, ◌≢◌, ◌+◌, ◌≤◌, ◌<◌, ◌==◌, ◌∷◌, [], ℕ, Bool, true, false, cond, nat_lt, List, Option, Some, None}
use Rattle.std.specs.declared.cmp.Ordering.{Ordering}
use Rattle.std.specs.Ordering.{is_eq, match_ordering, nat_cmp}
use Rattle.std.specs.Cmp.{nat_cmp_total, tied_itself}
use Rattle.std.specs.BTreeMap.{insert_entry, is_at}
use Rattle.std.specs.Map.{lookup, remove_entry, set_value}
use Rattle.std.proofs.Common.{◌∙◌, Less, Equal, Greater, refl, sym, ap, arith}
use Rattle.std.proofs.lemmas.Bool.Decides.{nat_tests}
use Rattle.line_request.specs.Outlines.{Waiting, waiting_at}
use Rattle.host_network.specs.Standing.{Machine}
use Rattle.live_host.specs.Apart.{AreFrom, OthersStay, alone, only}
use Rattle.live_host.specs.Hosts.{Live, live_at}
use Rattle.live_host.specs.Keeping.{inserted-is-found}

-- ---- numbers
-- what the order of two numbers says of them
abbrev pub IsOrder : ℕ → ℕ → Ordering → Type 0
IsOrder g h Less = g < h
IsOrder g h Equal = g ≡ h
IsOrder g h Greater = h < g

pub order-of : (g h : ℕ) → IsOrder g h (nat_cmp g h)
order-of g h = by (nat_lt g h) refl (g == h) refl
  where
    by : (below : Bool) → nat_lt g h ≡ below → (same : Bool) → (g == h) ≡ same
        → IsOrder g h (cond below Less (cond same Equal Greater))
    by true lt same eq = grind (arith, nat_tests)
    by false lt true eq = grind (arith, nat_tests)
    by false lt false eq = grind (arith, nat_tests)

pub at-itself : (g : ℕ) → nat_cmp g g ≡ Equal
at-itself g = tied_itself nat_cmp_total g

not-at : (g h : ℕ) → g ≢ h → is_at (nat_cmp g) h ≡ false
not-at g h apart = by (nat_cmp g h) (order-of g h)
  where
    by : (o : Ordering) → IsOrder g h o → is_eq o ≡ false
    by Less is = refl
    by Equal is = absurd (apart is)
    by Greater is = refl

-- ---- entries of one number
-- the entry of this number alone
abbrev pub only_at : {X : Type 0} → ℕ → List (ℕ × X) → List (ℕ × X)
only_at g es = only g (lookup (is_at (nat_cmp g)) es)

pub found-only : {X : Type 0} (g : ℕ) (o : Option X) → lookup (is_at (nat_cmp g)) (only g o) ≡ o
found-only g None = refl
found-only g (Some x) = ap (λ o. cond (is_eq o) (Some x) None) (at-itself g)

pub found-alone : {X : Type 0} (g : ℕ) (es : List (ℕ × X))
    → lookup (is_at (nat_cmp g)) (only_at g es) ≡ lookup (is_at (nat_cmp g)) es
found-alone g es = found-only g (lookup (is_at (nat_cmp g)) es)

inserted-only : {X : Type 0} (g : ℕ) (o : Option X) (x : X) → insert_entry nat_cmp (only g o) g x ≡ (g, x) ∷ []
inserted-only g None x = refl
inserted-only g (Some y) x =
    ap (λ o. match_ordering o ((g, x) ∷ (g, y) ∷ []) ((g, x) ∷ []) ((g, y) ∷ (g, x) ∷ [])) (at-itself g)

pub inserted-alone : {X : Type 0} (g : ℕ) (es : List (ℕ × X)) (x : X)
    → only_at g (insert_entry nat_cmp es g x) ≡ insert_entry nat_cmp (only_at g es) g x
inserted-alone g es x =
    ap (only g) (inserted-is-found es g x) ∙ sym (inserted-only g (lookup (is_at (nat_cmp g)) es) x)

-- the same with this in the place of what was found
abbrev found-as : {X : Type 0} → X → Option X → Option X
found-as x None = None
found-as x (Some y) = Some x

set-is-found : {X : Type 0} (test : ℕ → Bool) (es : List (ℕ × X)) (x : X)
    → lookup test (set_value test es x) ≡ found-as x (lookup test es)
set-is-found test [] x = refl
set-is-found {X} test (e ∷ es) x = step (test e.0) refl (set-is-found test es x)
  where
    step : (b : Bool) → test e.0 ≡ b → lookup test (set_value test es x) ≡ found-as x (lookup test es)
        → lookup test (cond b ((e.0, x) ∷ es) (e ∷ set_value test es x)) ≡ found-as x (cond b (Some e.1) (lookup test es))
    step true is others = ap (λ b. cond b (Some x) (lookup test es)) is
    step false is others = ap (λ b. cond b (Some e.1) (lookup test (set_value test es x))) is ∙ others

set-only : {X : Type 0} (g : ℕ) (o : Option X) (x : X)
    → only g (found-as x o) ≡ set_value (is_at (nat_cmp g)) (only g o) x
set-only g None x = refl
set-only g (Some y) x = ap (λ o. cond (is_eq o) ((g, x) ∷ []) ((g, y) ∷ [])) (sym (at-itself g))

pub set-alone : {X : Type 0} (g : ℕ) (es : List (ℕ × X)) (x : X)
    → only_at g (set_value (is_at (nat_cmp g)) es x) ≡ set_value (is_at (nat_cmp g)) (only_at g es) x
set-alone g es x =
    ap (only g) (set-is-found (is_at (nat_cmp g)) es x) ∙ set-only g (lookup (is_at (nat_cmp g)) es) x

-- below the first number there is none
pub none-below : {X : Type 0} (g k : ℕ) (es : List (ℕ × X)) → AreFrom k es → g < k → lookup (is_at (nat_cmp g)) es ≡ None
none-below g k [] are below = refl
none-below g k (e ∷ es) are below =
    let more = are.0 in
    let apart : g ≢ e.0 = omega (arith, more) in
    ap (λ b. cond b (Some e.1) (lookup (is_at (nat_cmp g)) es)) (not-at g e.0 apart)
    ∙ none-below g (e.0 + 1) es are.1 (omega (arith, more))

pub removed-is-gone : {X : Type 0} (g k : ℕ) (es : List (ℕ × X)) → AreFrom k es
    → lookup (is_at (nat_cmp g)) (remove_entry (is_at (nat_cmp g)) es) ≡ None
removed-is-gone g k [] are = refl
removed-is-gone {X} g k (e ∷ es) are = step (nat_cmp g e.0) refl (order-of g e.0) (removed-is-gone g (e.0 + 1) es are.1)
  where
    step : (o : Ordering) → nat_cmp g e.0 ≡ o → IsOrder g e.0 o
        → lookup (is_at (nat_cmp g)) (remove_entry (is_at (nat_cmp g)) es) ≡ None
        → lookup (is_at (nat_cmp g)) (cond (is_eq o) es (e ∷ remove_entry (is_at (nat_cmp g)) es)) ≡ None
    step Less is order others =
        ap (λ o. cond (is_eq o) (Some e.1) (lookup (is_at (nat_cmp g)) (remove_entry (is_at (nat_cmp g)) es))) is ∙ others
    step Equal is order others = none-below g (e.0 + 1) es are.1 (omega (arith, order))
    step Greater is order others =
        ap (λ o. cond (is_eq o) (Some e.1) (lookup (is_at (nat_cmp g)) (remove_entry (is_at (nat_cmp g)) es))) is ∙ others

removed-only : {X : Type 0} (g : ℕ) (o : Option X) → remove_entry (is_at (nat_cmp g)) (only g o) ≡ []
removed-only g None = refl
removed-only g (Some x) = ap (λ o. cond (is_eq o) [] ((g, x) ∷ [])) (at-itself g)

pub removed-alone : {X : Type 0} (g : ℕ) (es : List (ℕ × X)) → AreFrom 0 es
    → only_at g (remove_entry (is_at (nat_cmp g)) es) ≡ remove_entry (is_at (nat_cmp g)) (only_at g es)
removed-alone g es are =
    ap (only g) (removed-is-gone g 0 es are) ∙ sym (removed-only g (lookup (is_at (nat_cmp g)) es))

-- ---- entries of other numbers
pub skipped : {X : Type 0} (h k : ℕ) (x : X) (o : Option X) → h ≢ k → cond (is_at (nat_cmp h) k) (Some x) o ≡ o
skipped h k x o apart = ap (λ b. cond b (Some x) o) (not-at h k apart)

pub inserted-apart : {X : Type 0} (g h : ℕ) (es : List (ℕ × X)) (x : X) → h ≢ g
    → lookup (is_at (nat_cmp h)) (insert_entry nat_cmp es g x) ≡ lookup (is_at (nat_cmp h)) es
inserted-apart g h [] x apart = skipped h g x None apart
inserted-apart {X} g h (e ∷ es) x apart = step (nat_cmp g e.0) (order-of g e.0) (inserted-apart g h es x apart)
  where
    step : (o : Ordering) → IsOrder g e.0 o
        → lookup (is_at (nat_cmp h)) (insert_entry nat_cmp es g x) ≡ lookup (is_at (nat_cmp h)) es
        → lookup (is_at (nat_cmp h)) (match_ordering o ((g, x) ∷ e ∷ es) ((e.0, x) ∷ es) (e ∷ insert_entry nat_cmp es g x))
        ≡ lookup (is_at (nat_cmp h)) (e ∷ es)
    step Less order others = skipped h g x (lookup (is_at (nat_cmp h)) (e ∷ es)) apart
    step Equal order others =
        let differ : h ≢ e.0 = omega (arith, order, apart) in
        skipped h e.0 x (lookup (is_at (nat_cmp h)) es) differ ∙ sym (skipped h e.0 e.1 (lookup (is_at (nat_cmp h)) es) differ)
    step Greater order others = ap (cond (is_at (nat_cmp h) e.0) (Some e.1)) others

pub set-apart : {X : Type 0} (g h : ℕ) (es : List (ℕ × X)) (x : X) → h ≢ g
    → lookup (is_at (nat_cmp h)) (set_value (is_at (nat_cmp g)) es x) ≡ lookup (is_at (nat_cmp h)) es
set-apart g h [] x apart = refl
set-apart {X} g h (e ∷ es) x apart = step (nat_cmp g e.0) (order-of g e.0) (set-apart g h es x apart)
  where
    step : (o : Ordering) → IsOrder g e.0 o
        → lookup (is_at (nat_cmp h)) (set_value (is_at (nat_cmp g)) es x) ≡ lookup (is_at (nat_cmp h)) es
        → lookup (is_at (nat_cmp h)) (cond (is_eq o) ((e.0, x) ∷ es) (e ∷ set_value (is_at (nat_cmp g)) es x))
        ≡ lookup (is_at (nat_cmp h)) (e ∷ es)
    step Less order others = ap (cond (is_at (nat_cmp h) e.0) (Some e.1)) others
    step Equal order others =
        let differ : h ≢ e.0 = omega (arith, order, apart) in
        skipped h e.0 x (lookup (is_at (nat_cmp h)) es) differ ∙ sym (skipped h e.0 e.1 (lookup (is_at (nat_cmp h)) es) differ)
    step Greater order others = ap (cond (is_at (nat_cmp h) e.0) (Some e.1)) others

pub removed-apart : {X : Type 0} (g h : ℕ) (es : List (ℕ × X)) → h ≢ g
    → lookup (is_at (nat_cmp h)) (remove_entry (is_at (nat_cmp g)) es) ≡ lookup (is_at (nat_cmp h)) es
removed-apart g h [] apart = refl
removed-apart {X} g h (e ∷ es) apart = step (nat_cmp g e.0) (order-of g e.0) (removed-apart g h es apart)
  where
    step : (o : Ordering) → IsOrder g e.0 o
        → lookup (is_at (nat_cmp h)) (remove_entry (is_at (nat_cmp g)) es) ≡ lookup (is_at (nat_cmp h)) es
        → lookup (is_at (nat_cmp h)) (cond (is_eq o) es (e ∷ remove_entry (is_at (nat_cmp g)) es))
        ≡ lookup (is_at (nat_cmp h)) (e ∷ es)
    step Less order others = ap (cond (is_at (nat_cmp h) e.0) (Some e.1)) others
    step Equal order others =
        let differ : h ≢ e.0 = omega (arith, order, apart) in
        sym (skipped h e.0 e.1 (lookup (is_at (nat_cmp h)) es) differ)
    step Greater order others = ap (cond (is_at (nat_cmp h) e.0) (Some e.1)) others

-- ---- ascending numbers
pub from-below : {X : Type 0} (j k : ℕ) (es : List (ℕ × X)) → j ≤ k → AreFrom k es → AreFrom j es
from-below j k [] le are = tt
from-below j k (e ∷ es) le are = let more = are.0 in (omega (arith, more), are.1)

pub inserted-ascend : {X : Type 0} (g k : ℕ) (es : List (ℕ × X)) (x : X) → k ≤ g → AreFrom k es
    → AreFrom k (insert_entry nat_cmp es g x)
inserted-ascend g k [] x le are = (le, tt)
inserted-ascend {X} g k (e ∷ es) x le are =
    step (nat_cmp g e.0) (order-of g e.0) (λ above. inserted-ascend g (e.0 + 1) es x above are.1)
  where
    step : (o : Ordering) → IsOrder g e.0 o → (e.0 + 1 ≤ g → AreFrom (e.0 + 1) (insert_entry nat_cmp es g x))
        → AreFrom k (match_ordering o ((g, x) ∷ e ∷ es) ((e.0, x) ∷ es) (e ∷ insert_entry nat_cmp es g x))
    step Less order others = (le, (omega (arith, order), are.1))
    step Equal order others = (are.0, are.1)
    step Greater order others = (are.0, others (omega (arith, order)))

pub set-ascend : {X : Type 0} (test : ℕ → Bool) (k : ℕ) (es : List (ℕ × X)) (x : X) → AreFrom k es
    → AreFrom k (set_value test es x)
set-ascend test k [] x are = tt
set-ascend {X} test k (e ∷ es) x are = step (test e.0) (set-ascend test (e.0 + 1) es x are.1)
  where
    step : (b : Bool) → AreFrom (e.0 + 1) (set_value test es x)
        → AreFrom k (cond b ((e.0, x) ∷ es) (e ∷ set_value test es x))
    step true others = are
    step false others = (are.0, others)

pub removed-ascend : {X : Type 0} (test : ℕ → Bool) (k : ℕ) (es : List (ℕ × X)) → AreFrom k es
    → AreFrom k (remove_entry test es)
removed-ascend test k [] are = tt
removed-ascend {X} test k (e ∷ es) are = step (test e.0) (removed-ascend test (e.0 + 1) es are.1)
  where
    step : (b : Bool) → AreFrom (e.0 + 1) (remove_entry test es) → AreFrom k (cond b es (e ∷ remove_entry test es))
    step true others = let more = are.0 in from-below k (e.0 + 1) es (omega (arith, more)) are.1
    step false others = (are.0, others)

-- ---- hosts by their parts
abbrev pub live_of : Bool → Waiting → List (ℕ × Machine) → Live
live_of b ws ms = record { bytes = b; waiting = ws; running = ms }

pub same-live : (b c : Bool) (ws vs : Waiting) (ms ns : List (ℕ × Machine)) → b ≡ c → ws ≡ vs → ms ≡ ns
    → live_of b ws ms ≡ live_of c vs ns
same-live b c ws vs ms ns one two three =
    ap (λ x. live_of x ws ms) one ∙ ap (λ x. live_of c x ms) two ∙ ap (live_of c vs) three

pub same-alone : (h : ℕ) (old new : Live) → new.bytes ≡ old.bytes
    → waiting_at new.waiting h ≡ waiting_at old.waiting h → live_at new h ≡ live_at old h → alone h new ≡ alone h old
same-alone h old new bytes waiting running =
    same-live new.bytes old.bytes _ _ _ _ bytes (ap (only h) waiting) (ap (only h) running)

pub others-stay : (g : ℕ) (old new : Live) → new ≡ old → OthersStay g old new
others-stay g old new is h apart = ap (alone h) is
