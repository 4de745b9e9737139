-- A place as one number gives the number back.
use Rattle.std.specs.Prelude.{◌≡◌, ℕ, zero, suc}
use Rattle.std.proofs.Common.{refl, ap}
use Rattle.node_table.specs.Numbers.{number_of, place_from_number}
use Rattle.node_table.specs.declared.places.RowPlace.TheInside.{Inside}

back : (n : ℕ) → number_of (place_from_number n) ≡ n
back zero = refl
back (suc n) = refl

-- a law: a place that is kept as a number is what that number says
pub numbered_back : (a : Inside) → record { number = number_of (place_from_number a.number) } ≡ a
numbered_back a = ap (λ n. record { number = n }) (back a.number)
