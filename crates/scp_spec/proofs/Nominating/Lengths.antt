-- How long a list is after values are put into it. `Sending` stands on it.
use Rattle.std.proofs.Common.{◌≡◌, ℕ, suc, ◌+◌, ◌≤◌, ◌<◌, Bool, true, false, length, List, [], ◌∷◌, if◌then◌else◌, refl, sym, ◌∙◌, arith}
use Rattle.std.proofs.lemmas.Bool.{or_parts, true≢false}
use Rattle.scp_types.specs.Nominations.{with_value}
use Rattle.scp_spec.specs.Candidates.{all_with}
use Rattle.scp_spec.proofs.Ballots.Order.{less}
use Rattle.scp_types.specs.Votes.{same_value, has_value}
use Rattle.scp_spec.proofs.Sets.Numbers.{through}

-- Lengths
pub with-longer : (x : List ℕ) (xs : List (List ℕ))
    → (length xs ≤ length (with_value x xs)) × (length (with_value x xs) ≤ length xs + 1)
unfolding with_value
with-longer x [] = (omega arith, omega arith)
with-longer x (y ∷ ys) = go (less x y) (same_value y x) (with-longer x ys)
  where
    go : (a b : Bool) → (length ys ≤ length (with_value x ys)) × (length (with_value x ys) ≤ length ys + 1)
        → (length (y ∷ ys) ≤ length (if a then x ∷ y ∷ ys else (if b then y ∷ ys else y ∷ with_value x ys)))
        × (length (if a then x ∷ y ∷ ys else (if b then y ∷ ys else y ∷ with_value x ys)) ≤ length (y ∷ ys) + 1)
    go true b ih = (omega arith, omega arith)
    go false true ih = (omega arith, omega arith)
    go false false ih = (omega (arith, ih.0), omega (arith, ih.1))

pub with-new : (x : List ℕ) (xs : List (List ℕ)) → has_value xs x ≡ false → length xs < length (with_value x xs)
unfolding with_value
with-new x [] h = omega arith
with-new x (y ∷ ys) h = go (less x y) (same_value y x) refl (λ k. with-new x ys k)
  where
    go : (a b : Bool) → (same_value y x) ≡ b → (has_value ys x ≡ false → length ys < length (with_value x ys))
        → length (y ∷ ys) < length (if a then x ∷ y ∷ ys else (if b then y ∷ ys else y ∷ with_value x ys))
    go true b e ih = omega arith
    go false true e ih = absurd (true≢false (sym e ∙ (or_parts (same_value y x) (has_value ys x) h).0))
    go false false e ih =
        let k : length ys < length (with_value x ys) = ih (or_parts (same_value y x) (has_value ys x) h).1 in
        omega (arith, k)

pub all-longer : (ys xs : List (List ℕ))
    → (length xs ≤ length (all_with ys xs)) × (length (all_with ys xs) ≤ length xs + length ys)
all-longer [] xs = (omega arith, omega arith)
all-longer (y ∷ ys) xs =
    let ih = all-longer ys xs in let w = with-longer y (all_with ys xs) in (through _ _ _ ih.0 w.0, up _ _ _ _ ih.1 w.1)
  where
    up : (a b c d : ℕ) → b ≤ c + d → a ≤ b + 1 → a ≤ c + suc d
    up a b c d h k = omega (arith, h, k)
