-- A list at a place: what is there, and what is before it.
use Rattle.std.proofs.Common.{◌≡◌, ℕ, zero, suc, ◌+◌, ◌<◌, ◌≤◌, List, [], ◌∷◌, ◌++◌, length, take, slice_get, Some, None, refl, ◌∙◌, ap, arith}
use Rattle.std.proofs.lemmas.List.{take_more}
use Rattle.std.proofs.lemmas.Option.{get_or_from_slice_get, slice_get_within}

pub there_is : {A : Type 0} (xs : List A) (n : ℕ) → n < length xs → (x : A) × (slice_get xs n ≡ Some x)
there_is [] n l = absurd (omega arith)
there_is (x ∷ xs) zero l = (x, refl)
there_is (x ∷ xs) (suc n) l = there_is xs n (omega arith)

pub front_at : {A : Type 0} (xs : List A) (n : ℕ) (x : A) → slice_get xs n ≡ Some x → take (n + 1) xs ≡ take n xs ++ x ∷ []
front_at xs n x e = take_more xs n x (slice_get_within xs n x e) ∙ ap (λ y. take n xs ++ y ∷ []) (get_or_from_slice_get xs n x x e)

pub past_end : {A : Type 0} (xs : List A) (k : ℕ) → slice_get xs k ≡ None → length xs ≤ k
past_end [] k e = omega arith
past_end (x ∷ xs) zero e = cc
past_end (x ∷ xs) (suc k) e = let r = past_end xs k e in omega arith
