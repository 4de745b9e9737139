-- Lists with one element changed.
use Rattle.std.specs.Prelude.{◌≡◌, ℕ, zero, suc, List, [], ◌∷◌}

-- a list with one element changed
abbrev pub changed_at : {X : Type 0} → ℕ → (X → X) → List X → List X
changed_at n f [] = []
changed_at zero f (x ∷ xs) = f x ∷ xs
changed_at (suc n) f (x ∷ xs) = x ∷ changed_at n f xs

-- two lists that are the same but for one place, and there the elements are related so
abbrev pub IsChangedAt : {X : Type 0} → (X → X → Type 0) → ℕ → List X → List X → Type 0
IsChangedAt R n [] ys = ⊥
IsChangedAt R n (x ∷ xs) [] = ⊥
IsChangedAt R zero (x ∷ xs) (y ∷ ys) = R x y × (xs ≡ ys)
IsChangedAt R (suc n) (x ∷ xs) (y ∷ ys) = (x ≡ y) × IsChangedAt R n xs ys
