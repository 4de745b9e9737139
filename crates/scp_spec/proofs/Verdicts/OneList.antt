-- Ascending lists with the same members are one. `Determined` stands on it.
use Rattle.std.proofs.Common.{◌≡◌, ℕ, zero, suc, ◌<◌, List, [], ◌∷◌, refl, sym, ◌∙◌, ap₂, subst, inl, inr, arith}
use Rattle.std.specs.List.{Contains}
use Rattle.std.proofs.lemmas.Bool.{cases_order}
use Rattle.scp_spec.specs.Sets.{IsAscending}
use Rattle.scp_spec.proofs.Sets.Contained.{contains_head, contains_tail, contained_cases}

above_head : (x : ℕ) (xs : List ℕ) → IsAscending (x ∷ xs) → (u : ℕ) → Contains xs u → x < u
above_head x xs h u c = subst (λ z. x < z) c.2 (let l = c.1 in h zero (suc c.0) u (omega arith) (omega arith))

ascending_tail : (x : ℕ) (xs : List ℕ) → IsAscending (x ∷ xs) → IsAscending xs
ascending_tail x xs h = λ i j d l k. h (suc i) (suc j) d (omega arith) (omega arith)

pub nothing_in : (u : ℕ) → Contains [] u → ⊥
nothing_in u c = let l = c.1 in omega arith

within_tails : (x y : ℕ) (xs ys : List ℕ) → IsAscending (x ∷ xs) → x ≡ y
    → ((u : ℕ) → Contains (x ∷ xs) u → Contains (y ∷ ys) u) → (u : ℕ) → Contains xs u → Contains ys u
within_tails x y xs ys h e f u c = elim (contained_cases u y ys (f u (contains_tail u x xs c))) [
  | inl k ↦ absurd (let l = above_head x xs h u c in let q = e ∙ k in omega (arith, l, q))
  | inr k ↦ k
]

-- ascending lists with the same members are one
pub one_list : (xs ys : List ℕ) → IsAscending xs → IsAscending ys → ((u : ℕ) → Contains xs u → Contains ys u)
    → ((u : ℕ) → Contains ys u → Contains xs u) → xs ≡ ys
one_list [] [] a b f g = refl
one_list [] (y ∷ ys) a b f g = absurd (nothing_in y (g y (contains_head y ys)))
one_list (x ∷ xs) [] a b f g = absurd (nothing_in x (f x (contains_head x xs)))
one_list (x ∷ xs) (y ∷ ys) a b f g = elim (cases_order x y) [
  | inl e ↦ ap₂ (λ (z : ℕ) (zs : List ℕ). z ∷ zs) e
      (one_list xs ys (ascending_tail x xs a) (ascending_tail y ys b) (within_tails x y xs ys a e f)
      (within_tails y x ys xs b (sym e) g))
  | inr (inl l) ↦ elim (contained_cases x y ys (f x (contains_head x xs))) [
    | inl e ↦ absurd (omega (arith, l, e))
    | inr c ↦ absurd (let k = above_head y ys b x c in omega (arith, l, k))
  ]
  | inr (inr l) ↦ elim (contained_cases y x xs (g y (contains_head y ys))) [
    | inl e ↦ absurd (omega (arith, l, e))
    | inr c ↦ absurd (let k = above_head x xs a y c in omega (arith, l, k))
  ]
]
