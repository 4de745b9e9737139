-- The slots and the draws of a network of which a slot is erased.
use Rattle.std.specs.Prelude.{◌≡◌, ◌≤◌, ◌++◌, ◌∷◌, [], ◌==◌, ◌&&◌, not, cond, ℕ, Bool, true, false, List, filter, length, if◌then◌else◌}
use Rattle.std.proofs.Common.{◌∙◌, refl, sym, ap, arith, append-nil, eq-eqb}
use Rattle.std.proofs.lemmas.Bool.{eqb-true, eqb-false, ne_eqb}
use Rattle.std.proofs.lemmas.List.Elements.{filter-append}
use Rattle.scp_spec.specs.Networks.{Instance, Slot}
use Rattle.scp_spec.specs.Rosters.{Draw, Share, drawn_on, same_share}
use Rattle.scp_spec.proofs.Networks.Effects.{at_slot}
use Rattle.live_host.specs.Erasing.{draws_but, slots_but}

-- ---- filters
pub other-way : (i j : ℕ) → (i == j) ≡ false → (j == i) ≡ false
other-way i j off = ne_eqb j i (λ same. eqb-false i j off (sym same))

pub filters-swap : {X : Type 0} (p q : X → Bool) (xs : List X) → filter p (filter q xs) ≡ filter q (filter p xs)
filters-swap p q [] = refl
filters-swap p q (x ∷ xs) = by (p x) refl (q x) refl (filters-swap p q xs)
  where
    by : (b : Bool) → p x ≡ b → (c : Bool) → q x ≡ c → filter p (filter q xs) ≡ filter q (filter p xs)
        → filter p (cond c (x ∷ filter q xs) (filter q xs)) ≡ filter q (cond b (x ∷ filter p xs) (filter p xs))
    by true is true so same = rw (is, so) (ap (λ ys. x ∷ ys) same)
    by true is false so same = rw so same
    by false is true so same = rw is same
    by false is false so same = same

pub filters-once : {X : Type 0} (p : X → Bool) (xs : List X) → filter p (filter p xs) ≡ filter p xs
filters-once p [] = refl
filters-once p (x ∷ xs) = by (p x) refl (filters-once p xs)
  where
    by : (b : Bool) → p x ≡ b → filter p (filter p xs) ≡ filter p xs
        → filter p (cond b (x ∷ filter p xs) (filter p xs)) ≡ cond b (x ∷ filter p xs) (filter p xs)
    by true is same = rw is (ap (λ ys. x ∷ ys) same)
    by false is same = same

pub filter-shortens : {X : Type 0} (p : X → Bool) (xs : List X) → length (filter p xs) ≤ length xs
filter-shortens p [] = omega arith
filter-shortens p (x ∷ xs) = by (p x) (filter-shortens p xs)
  where
    by : (b : Bool) → length (filter p xs) ≤ length xs
        → length (cond b (x ∷ filter p xs) (filter p xs)) ≤ length (x ∷ xs)
    by true less = omega arith
    by false less = omega arith

-- ---- slots
pub slots-act : (f : List Instance → List Instance) (i j : ℕ) (ss : List Slot)
    → slots_but i (at_slot f j ss) ≡ at_slot f j (slots_but i ss)
slots-act f i j [] = refl
slots-act f i j (s ∷ ss) = by (s.number == j) refl (s.number == i) refl (slots-act f i j ss)
  where
    by : (b : Bool) → (s.number == j) ≡ b → (c : Bool) → (s.number == i) ≡ c
        → slots_but i (at_slot f j ss) ≡ at_slot f j (slots_but i ss)
        → slots_but i ((if b then record s { instances = f s.instances } else s) ∷ at_slot f j ss)
        ≡ at_slot f j (cond (not c) (s ∷ slots_but i ss) (slots_but i ss))
    by true here true there same = rw there same
    by true here false there same =
        rw (there, here) (ap (λ (rest : List Slot). record s { instances = f s.instances } ∷ rest) same)
    by false here true there same = rw there same
    by false here false there same = rw (there, here) (ap (λ rest. s ∷ rest) same)

pub slots-act-there : (f : List Instance → List Instance) (i : ℕ) (ss : List Slot)
    → slots_but i (at_slot f i ss) ≡ slots_but i ss
slots-act-there f i [] = refl
slots-act-there f i (s ∷ ss) = by (s.number == i) refl (slots-act-there f i ss)
  where
    by : (b : Bool) → (s.number == i) ≡ b → slots_but i (at_slot f i ss) ≡ slots_but i ss
        → slots_but i ((if b then record s { instances = f s.instances } else s) ∷ at_slot f i ss)
        ≡ cond (not b) (s ∷ slots_but i ss) (slots_but i ss)
    by true here same = rw here same
    by false here same = rw here (ap (λ rest. s ∷ rest) same)

pub slots-push : (i j : ℕ) (ss : List Slot) (ps : List Instance) → (i == j) ≡ false
    → slots_but i (ss ++ record { number = j; instances = ps } ∷ [])
    ≡ slots_but i ss ++ record { number = j; instances = ps } ∷ []
slots-push i j ss ps off =
    filter-append (λ s. not (s.number == i)) ss (record { number = j; instances = ps } ∷ [])
    ∙ ap (λ b. slots_but i ss ++ cond (not b) (record { number = j; instances = ps } ∷ []) []) (other-way i j off)

pub slots-push-there : (i j : ℕ) (ss : List Slot) (ps : List Instance) → (i == j) ≡ true
    → slots_but i (ss ++ record { number = j; instances = ps } ∷ []) ≡ slots_but i ss
slots-push-there i j ss ps on =
    filter-append (λ s. not (s.number == i)) ss (record { number = j; instances = ps } ∷ [])
    ∙ ap (λ b. slots_but i ss ++ cond (not b) (record { number = j; instances = ps } ∷ []) [])
    (eq-eqb j i (sym (eqb-true i j on)))
    ∙ append-nil (slots_but i ss)

-- ---- draws
pub drawn-elsewhere : (i j : ℕ) (s : Share) (ds : List Draw) → (i == j) ≡ false
    → drawn_on j s (draws_but i ds) ≡ drawn_on j s ds
drawn-elsewhere i j s [] off = refl
drawn-elsewhere i j s (d ∷ ds) off = by (d.slot == i) refl (drawn-elsewhere i j s ds off)
  where
    by : (b : Bool) → (d.slot == i) ≡ b → drawn_on j s (draws_but i ds) ≡ drawn_on j s ds
        → drawn_on j s (cond (not b) (d ∷ draws_but i ds) (draws_but i ds))
        ≡ cond ((d.slot == j) && same_share d.share s) (d ∷ drawn_on j s ds) (drawn_on j s ds)
    by true there same = rw (ap (λ x. x == j) (eqb-true d.slot i there) ∙ off) same
    by false there same = ap (λ rest. cond ((d.slot == j) && same_share d.share s) (d ∷ rest) rest) same

pub draws-behind : (i : ℕ) (more ds es : List Draw) → draws_but i ds ≡ draws_but i es
    → draws_but i (more ++ ds) ≡ draws_but i (more ++ es)
draws-behind i more ds es same =
    filter-append (λ d. not (d.slot == i)) more ds ∙ ap (λ rest. draws_but i more ++ rest) same
    ∙ sym (filter-append (λ d. not (d.slot == i)) more es)

pub draws-there : (i j : ℕ) (s : Share) (size : ℕ) (ds : List Draw) → (i == j) ≡ true
    → draws_but i (record { slot = j; share = s; size = size } ∷ ds) ≡ draws_but i ds
draws-there i j s size ds on =
    ap (λ b. cond (not b) (record { slot = j; share = s; size = size } ∷ draws_but i ds) (draws_but i ds))
    (eq-eqb j i (sym (eqb-true i j on)))
