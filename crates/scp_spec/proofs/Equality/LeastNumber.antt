-- The least number, or name of a list, that passes a test. `Verdicts` stands on it.
use Rattle.std.proofs.Common.{◌≡◌, ◌⊎◌, ℕ, zero, suc, ◌<◌, ◌+◌, true, false, ◌==◌, List, [], ◌∷◌, ◌∙◌, ap, inl, inr, arith}
use Rattle.std.proofs.lemmas.Bool.{cases_Bool, cases_order, or_cases, eqb-true, false≢true}
use Rattle.scp_spec.specs.Sets.{Names, among}

pub record IsLeastThat (test : Names) (u : ℕ) : Type 0 where
  pub passes : test u ≡ true
  pub none_before : (w : ℕ) → w < u → test w ≡ false

pub least_below : (test : Names) (bound : ℕ) → ((u : ℕ) → u < bound → test u ≡ false) ⊎ ((u : ℕ) × IsLeastThat test u)
least_below test zero = inl (λ u l. absurd (omega (arith, l)))
least_below test (suc n) = go (least_below test n)
  where
    at_end : ((u : ℕ) → u < n → test u ≡ false) → test n ≡ false → (u : ℕ) → u < suc n → test u ≡ false
    at_end f e u l = elim (cases_order u n) [
      | inl q ↦ ap test q ∙ e
      | inr (inl k) ↦ f u k
      | inr (inr k) ↦ absurd (omega (arith, l, k))
    ]

    go : ((u : ℕ) → u < n → test u ≡ false) ⊎ ((u : ℕ) × IsLeastThat test u)
        → ((u : ℕ) → u < suc n → test u ≡ false) ⊎ ((u : ℕ) × IsLeastThat test u)
    go (inr p) = inr p
    go (inl f) = elim (cases_Bool (test n)) [
      | inl e ↦ inr (n, record { passes = e; none_before = f })
      | inr e ↦ inl (at_end f e)
    ]

-- a number above all names of a list
pub bound_of : List ℕ → ℕ
bound_of [] = 0
bound_of (x ∷ xs) = suc x + bound_of xs

pub among-below : (xs : List ℕ) (u : ℕ) → among xs u ≡ true → u < bound_of xs
unfolding bound_of
among-below [] u h = absurd (false≢true h)
among-below (x ∷ xs) u h = elim (or_cases (x == u) (among xs u) h) [
  | inl e ↦ let q = eqb-true x u e in omega (arith, q)
  | inr m ↦ let l = among-below xs u m in omega (arith, l)
]

-- the least name of a list that passes a test, where all that pass are names of the list
pub least_among : (test : Names) (bound : ℕ) → ((u : ℕ) → test u ≡ true → u < bound)
    → ((u : ℕ) → test u ≡ false) ⊎ ((u : ℕ) × IsLeastThat test u)
least_among test bound f = elim (least_below test bound) [
  | inl g ↦ inl (λ u. elim (cases_Bool (test u)) [ inl e ↦ g u (f u e) | inr e ↦ e ])
  | inr p ↦ inr p
]
