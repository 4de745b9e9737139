-- The names of a filtered list.
use Rattle.std.proofs.Common.{◌≡◌, ℕ, suc, ◌≤◌, Bool, true, false, cond, ◌==◌, List, [], ◌∷◌, length, filter, refl, sym, ap, ◌∙◌, arith, inl, inr, ◌⊎◌}
use Rattle.std.proofs.lemmas.Bool.{cases_Bool, or_cases, or_left, or_right, eqb-true, eq-eqb, false≢true}
use Rattle.scp_spec.specs.Sets.{Names, among}

pub among-filter : (p : Names) (us : List ℕ) (u : ℕ) → among us u ≡ true → p u ≡ true → among (filter p us) u ≡ true
among-filter p [] u h k = h
among-filter p (w ∷ ws) u h k = elim (cases_Bool (p w)) [
  | inl e ↦ rw e (elim (or_cases (w == u) (among ws u) h) [
    | inl i ↦ or_left (w == u) (among (filter p ws) u) i
    | inr i ↦ or_right (w == u) (among (filter p ws) u) (among-filter p ws u i k)
  ])
  | inr e ↦ rw e (elim (or_cases (w == u) (among ws u) h) [
    | inl i ↦ absurd (false≢true (sym e ∙ (ap p (eqb-true w u i) ∙ k)))
    | inr i ↦ among-filter p ws u i k
  ])
]

split : (v : Bool) (w : ℕ) (ws : List ℕ) (u : ℕ) → among (cond v (w ∷ ws) ws) u ≡ true → ((v ≡ true) × (w ≡ u)) ⊎ (among ws u ≡ true)
split true w ws u h = elim (or_cases (w == u) (among ws u) h) [ inl e ↦ inl (refl, eqb-true w u e) | inr e ↦ inr e ]
split false w ws u h = inr h

-- what is left was there, and passed
pub among-from_filter : (p : Names) (us : List ℕ) (u : ℕ) → among (filter p us) u ≡ true → (among us u ≡ true) × (p u ≡ true)
among-from_filter p [] u h = absurd (false≢true h)
among-from_filter p (w ∷ ws) u h = elim (split (p w) w (filter p ws) u h) [
  | inl e ↦ (or_left (w == u) (among ws u) (eq-eqb w u e.1), ap p (sym e.1) ∙ e.0)
  | inr e ↦ let i = among-from_filter p ws u e in (or_right (w == u) (among ws u) i.0, i.1)
]

pub length-filter_le : (p : Names) (us : List ℕ) → length (filter p us) ≤ length us
length-filter_le p [] = omega arith
length-filter_le p (w ∷ ws) = le_by (p w) w (filter p ws) (length ws) (length-filter_le p ws)
  where
    le_by : (v : Bool) (w : ℕ) (ws : List ℕ) (n : ℕ) → length ws ≤ n → length (cond v (w ∷ ws) ws) ≤ suc n
    le_by true w ws n h = omega arith
    le_by false w ws n h = omega arith

all_kept : (v : Bool) (w : ℕ) (vs ws : List ℕ) → length vs ≤ length ws → length (cond v (w ∷ vs) vs) ≡ suc (length ws) → (length vs ≡ length ws → vs ≡ ws) → cond v (w ∷ vs) vs ≡ w ∷ ws
all_kept true w vs ws le e f = ap (λ (xs : List ℕ). w ∷ xs) (f (omega arith))
all_kept false w vs ws le e f = absurd (omega arith)

-- where nothing is taken away, nothing changes
pub filter-all : (p : Names) (us : List ℕ) → length (filter p us) ≡ length us → filter p us ≡ us
filter-all p [] e = refl
filter-all p (w ∷ ws) e = all_kept (p w) w (filter p ws) ws (length-filter_le p ws) e (filter-all p ws)
