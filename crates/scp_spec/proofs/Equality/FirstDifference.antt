-- The first difference of two lists. `Verdicts` stands on it.
use Rattle.std.proofs.Common.{◌≡◌, ◌≢◌, ◌⊎◌, ℕ, suc, List, [], ◌∷◌, refl, ap₂, inl, inr}
use Rattle.scp_spec.specs.Verdicts.{IsFirstDifference}
use Rattle.scp_spec.proofs.Equality.Decisions.{IsDecided}

pub first_difference : {A : Type 0} → IsDecided A → (xs ys : List A)
    → (xs ≡ ys) ⊎ ((place : ℕ) × IsFirstDifference xs ys place)
first_difference d [] [] = inl refl
first_difference d [] (y ∷ ys) = inr (0, record { before = refl; there = λ q. cc })
first_difference d (x ∷ xs) [] = inr (0, record { before = refl; there = λ q. cc })
first_difference {A} d (x ∷ xs) (y ∷ ys) = go (d x y) (first_difference d xs ys)
  where
    go : (x ≡ y) ⊎ (x ≢ y) → (xs ≡ ys) ⊎ ((place : ℕ) × IsFirstDifference xs ys place)
        → (x ∷ xs ≡ y ∷ ys) ⊎ ((place : ℕ) × IsFirstDifference (x ∷ xs) (y ∷ ys) place)
    go (inr n) f = inr (0, record { before = refl; there = λ q. n (cc) })
    go (inl e) (inl f) = inl (ap₂ (λ (z : A) (zs : List A). z ∷ zs) e f)
    go (inl e) (inr f) =
        inr (suc f.0, record { before = ap₂ (λ (z : A) (zs : List A). z ∷ zs) e f.1.before; there = f.1.there })
