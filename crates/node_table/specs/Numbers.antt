-- A place, or none, as one number.
use Rattle.std.specs.Prelude.{ℕ, zero, suc, Option, Some, None}

-- the place that a number stands for: none for 0, else one less
abbrev pub place_from_number : ℕ → Option ℕ
place_from_number zero = None
place_from_number (suc n) = Some n

-- the number that a place is kept as: 0 for none, else one more
abbrev pub number_of : Option ℕ → ℕ
number_of None = 0
number_of (Some n) = suc n
