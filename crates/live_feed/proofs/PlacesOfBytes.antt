-- What a search for a byte answers, in the words of the definitions.
use Rattle.std.proofs.Common.{◌≡◌, ◌+◌, ◌||◌, ℕ, Bool, true, false, not, ◌==◌, List, [], ◌∷◌, Option, Some, None, length, refl, sym, ap, ◌∙◌, arith}
use Rattle.std.specs.Prelude.{cond, is_some, nat_lt, position}
use Rattle.std.specs.List.{list_any, position_or_len}
use Rattle.std.proofs.lemmas.List.Sums.{position_or_len_is}
use Rattle.std.proofs.lemmas.Bool.Decides.{nat_tests}
use Rattle.std.proofs.lemmas.Grind.{common_steps}
use Rattle.memchr.specs.Find.{IsFirstByte, is_byte}

pub first_place_is : (at : ℕ) (bytes : List ℕ) (r : Option ℕ) → IsFirstByte (is_byte at) bytes r → r ≡ position (λ b. b == at) bytes
first_place_is at bytes None none =
    let n : position_or_len (λ b. b == at) bytes ≡ length bytes = position_or_len_is (λ b. b == at) bytes (length bytes) 0 (omega arith) (λ k lt. let ne = none k (omega arith) lt in grind (arith, nat_tests)) (λ lt. absurd (omega arith)) in
    let less : nat_lt (position_or_len (λ b. b == at) bytes) (length bytes) ≡ false = grind (arith, nat_tests) in
    sym (ap (λ b. cond b (Some (position_or_len (λ x. x == at) bytes)) None) less)
first_place_is at bytes (Some k) found =
    let n : position_or_len (λ b. b == at) bytes ≡ k = position_or_len_is (λ b. b == at) bytes k 0 (omega (arith, found.0.high)) (λ j lt. let ne = found.0.before j (omega arith) lt in grind (arith, nat_tests)) (λ lt. found.1) in
    let less : nat_lt (position_or_len (λ b. b == at) bytes) (length bytes) ≡ true = let high = found.0.high in grind (arith, nat_tests) in
    sym (ap (λ b. cond b (Some (position_or_len (λ x. x == at) bytes)) None) less ∙ ap Some n)

any_is : (p : ℕ → Bool) (xs : List ℕ) → list_any p xs ≡ nat_lt (position_or_len p xs) (length xs)
any_is p [] = refl
any_is p (x ∷ xs) = by (any_is p xs) (p x) refl
  where
    by : list_any p xs ≡ nat_lt (position_or_len p xs) (length xs) → (b : Bool) → p x ≡ b → list_any p (x ∷ xs) ≡ nat_lt (position_or_len p (x ∷ xs)) (length (x ∷ xs))
    by rest true e =
        let found : position_or_len p (x ∷ xs) ≡ 0 = ap (λ t. cond (not t) (1 + position_or_len p xs) 0) e in
        let less : nat_lt (position_or_len p (x ∷ xs)) (length (x ∷ xs)) ≡ true = grind (arith, nat_tests) in
        ap (λ b. b || list_any p xs) e ∙ sym less
    by rest false e =
        let found : position_or_len p (x ∷ xs) ≡ 1 + position_or_len p xs = ap (λ t. cond (not t) (1 + position_or_len p xs) 0) e in
        let same : nat_lt (position_or_len p (x ∷ xs)) (length (x ∷ xs)) ≡ nat_lt (position_or_len p xs) (length xs) = grind (arith, nat_tests) in
        ap (λ b. b || list_any p xs) e ∙ rest ∙ sym same

-- a byte stands in bytes if there is a first place of it
pub has_place_is : (at : ℕ) (bytes : List ℕ) → is_some (position (λ b. b == at) bytes) ≡ list_any (λ b. b == at) bytes
has_place_is at bytes = elim (nat_lt (position_or_len (λ b. b == at) bytes) (length bytes)) as (λ b. is_some (cond b (Some (position_or_len (λ x. x == at) bytes)) None) ≡ b) [ true ↦ refl | false ↦ refl ] ∙ sym (any_is (λ b. b == at) bytes)
