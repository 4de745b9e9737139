-- An inner set weighs less than the set that holds it, and how many there are.
use Rattle.std.proofs.Common.{◌≡◌, ℕ, zero, suc, ◌<◌, List, [], ◌∷◌, get_or, length, refl, arith}
use Rattle.scp_bits.specs.Places.{Compiled, count_sets, sets_of, weight_of_sets}

pub inner_weighs_less : (cs : List Compiled) (i : ℕ) (d : Compiled) → i < length cs → weight_of_sets (get_or cs i d).inner < weight_of_sets (sets_of cs)
inner_weighs_less [] i d h = absurd (omega arith)
inner_weighs_less (c ∷ cs) zero d h = omega arith
inner_weighs_less (c ∷ cs) (suc i) d h = omega (arith, inner_weighs_less cs i d (omega arith))

pub counted : (cs : List Compiled) → count_sets (sets_of cs) ≡ length cs
counted [] = refl
counted (c ∷ cs) = omega (arith, counted cs)
