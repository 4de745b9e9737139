-- Decimal numbers.
use Rattle.std.specs.Prelude.{◌&&◌, Bool, nat_le, ◌≢◌, ℕ, ◌+◌, ◌-◌, ◌*◌, ◌≤◌, ◌<◌, List, [], ◌∷◌, length, slice_index}
use Rattle.std.specs.List.{AllByRecursion}

-- the number that digits spell behind a number
abbrev pub decimal_from : ℕ → List ℕ → ℕ
decimal_from n [] = n
decimal_from n (digit ∷ digits) = decimal_from (n * 10 + (digit - 48)) digits

-- the number that digits spell
abbrev pub decimal : List ℕ → ℕ
decimal = decimal_from 0

-- a byte from `0` to `9`
abbrev pub IsDigit : ℕ → Type 0
IsDigit byte = (48 ≤ byte) × (byte ≤ 57)

-- the same as a test
abbrev pub is_digit : ℕ → Bool
is_digit byte = nat_le 48 byte && nat_le byte 57

-- one digit or more, of which the first is no 0 if there are several
pub record IsDecimal (word : List ℕ) : Type 0 where
  pub some : 0 < length word
  pub digits : AllByRecursion IsDigit word
  pub shortest : 1 < length word → slice_index word 0 ≢ 48
