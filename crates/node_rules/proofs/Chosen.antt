-- Values chosen one after another.
use Rattle.std.proofs.Common.{◌≡◌, ℕ, zero, suc, ◌+◌, ◌-◌, ◌<◌, ◌≤◌, Bool, true, false, List, [], ◌∷◌, ◌++◌, length, take, drop, get_or, if◌then◌else◌, filter, sym, ◌∙◌, ap, append_assoc, arith, drop-cons, add-one}
use Rattle.std.proofs.lemmas.List.{take_all}

-- what was chosen, and what will be chosen of the values from the place on, is what is chosen of all
abbrev pub GoesOn : (List ℕ → Bool) → ℕ → List (List ℕ) → List (List ℕ) → ℕ → ℕ → Type 0
GoesOn p most xs chosen room i = take most (filter p xs) ≡ chosen ++ take room (filter p (drop i xs))

module _ (p : List ℕ → Bool) (most : ℕ) (xs chosen : List (List ℕ)) (room i : ℕ) (x : List ℕ) (h : i < length xs) (is : x ≡ get_or xs i x) (g : GoesOn p most xs chosen room i) where
  from_place : drop i xs ≡ x ∷ drop (i + 1) xs
  from_place = rw add-one (drop-cons xs i x h ∙ ap (λ z. z ∷ drop (suc i) xs) (sym is))

  pub passed_over : p x ≡ false → GoesOn p most xs chosen room (i + 1)
  passed_over e = g ∙ ap (λ ys. chosen ++ take room ys) (ap (filter p) from_place ∙ ap (λ b. if b then x ∷ filter p (drop (i + 1) xs) else filter p (drop (i + 1) xs)) e)

  pub one_more : p x ≡ true → 0 < room → GoesOn p most xs (chosen ++ x ∷ []) (room - 1) (i + 1)
  one_more e r =
      g ∙ ap (λ ys. chosen ++ take room ys) (ap (filter p) from_place ∙ ap (λ b. if b then x ∷ filter p (drop (i + 1) xs) else filter p (drop (i + 1) xs)) e)
      ∙ ap (λ ys. chosen ++ ys) (first room r) ∙ sym (append_assoc chosen (x ∷ []) (take (room - 1) (filter p (drop (i + 1) xs))))
    where
      first : (n : ℕ) → 0 < n → take n (x ∷ filter p (drop (i + 1) xs)) ≡ x ∷ take (n - 1) (filter p (drop (i + 1) xs))
      first zero k = elim k [ ]
      first (suc n) k = ap (λ m. x ∷ take m (filter p (drop (i + 1) xs))) (omega arith)

kept_length : (p : List ℕ → Bool) (xs : List (List ℕ)) → length (filter p xs) ≤ length xs
kept_length p [] = omega arith
kept_length p (x ∷ xs) = go (p x) (kept_length p xs)
  where
    go : (a : Bool) → length (filter p xs) ≤ length xs → length (if a then x ∷ filter p xs else filter p xs) ≤ length (x ∷ xs)
    go true ih = omega arith
    go false ih = omega arith

-- as many as there are: all that pass
pub all_chosen : (p : List ℕ → Bool) (xs : List (List ℕ)) → take (length xs) (filter p xs) ≡ filter p xs
all_chosen p xs = take_all (length xs) (filter p xs) (kept_length p xs)
