-- Places that pass a test, added to a set one after the other.
use Rattle.std.proofs.Common.{◌≡◌, ◌≢◌, ℕ, ◌<◌, ◌≤◌, ◌+◌, ◌==◌, Bool, true, false, if◌then◌else◌, List, subst, sym, ap, ◌∙◌, arith, inl, inr}
use Rattle.std.proofs.lemmas.Bool.{cases_Bool, cases_lt, eq-eqb, eqb-true, true≢false}
use Rattle.scp_bits.specs.Met.{IsAdded, one_where}
use Rattle.scp_bits.specs.Places.{bit_of}

-- of the first places those are in that pass, and no others
abbrev pub AreFirst : (ℕ → Bool) → ℕ → List ℕ → Type 0
AreFirst passes k ws = ((i : ℕ) → i < k → bit_of ws i ≡ one_where (passes i)) × ((i : ℕ) → k ≤ i → bit_of ws i ≡ 0)

module _ (passes : ℕ → Bool) (k : ℕ) (ws : List ℕ) (first : AreFirst passes k ws) where
  -- the next place passes, and is added
  pub first_added : (vs : List ℕ) → passes k ≡ true → IsAdded k ws vs → AreFirst passes (k + 1) vs
  first_added vs it added = (
    λ i inside. elim (cases_Bool (k == i)) [
      | inl here ↦ at i true here ∙ sym (ap one_where (subst (λ n. passes n ≡ true) (eqb-true k i here) it))
      | inr there ↦ at i false there ∙ first.0 i (omega (arith, inside, another i there))
    ],
    λ i behind. elim (cases_Bool (k == i)) [
      | inl here ↦ absurd (omega (arith, behind, eqb-true k i here))
      | inr there ↦ at i false there ∙ first.1 i (omega (arith, behind))
    ],
  )
    where
      at : (i : ℕ) (b : Bool) → (k == i) ≡ b → bit_of vs i ≡ (if b then 1 else bit_of ws i)
      at i b is = added.1 i ∙ ap (λ t. if t then 1 else bit_of ws i) is

      another : (i : ℕ) → (k == i) ≡ false → k ≢ i
      another i there is = true≢false (sym (eq-eqb k i is) ∙ there)

  -- it does not, and nothing changes
  pub first_passed_over : passes k ≡ false → AreFirst passes (k + 1) ws
  first_passed_over it = (
    λ i inside. elim (cases_lt i k) [
      | inl before ↦ first.0 i before
      | inr behind ↦
          let last : k ≡ i = omega (arith, inside, behind) in
          first.1 i behind ∙ sym (ap one_where (subst (λ n. passes n ≡ false) last it))
    ],
    λ i behind. first.1 i (omega (arith, behind)),
  )
