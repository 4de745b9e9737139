-- Values, and the sets of them that a nomination has.
use Rattle.std.specs.Prelude.{◌≡◌, ℕ, ◌<◌, ◌≤◌, Bool, true, ◌&&◌, nat_le, nat_eq, List, [], ◌∷◌, length, if◌then◌else◌}
use lib.Pointwise.{pointwise}
use Rattle.std.specs.Ordering.{is_lt}
use Rattle.std.specs.declared.cmp.Ordering.TheVariants.{Less}
use Rattle.scp_types.specs.Orders.{bytes_cmp}

-- a value has one to 256 bytes
abbrev pub IsValue : List ℕ → Type 0
IsValue v = (0 < length v) × (length v ≤ 256)

-- each value is below the next
abbrev pub Ascending : List (List ℕ) → Type 0
Ascending [] = Unit {0}
Ascending (x ∷ []) = Unit {0}
Ascending (x ∷ y ∷ ys) = (bytes_cmp x y ≡ Less) × Ascending (y ∷ ys)

-- the most values in each of the two sets of a nomination: 16
abbrev pub most_nominated : ℕ
most_nominated = 16

-- one set of a nomination
pub record IsNominationSet (xs : List (List ℕ)) : Type 0 where
  pub few : length xs ≤ most_nominated
  pub ascending : Ascending xs

-- two values are the same, byte by byte
abbrev pub same_value : List ℕ → List ℕ → Bool
same_value = pointwise nat_eq

-- an ascending list with this value too
unfoldable pub with_value : List ℕ → List (List ℕ) → List (List ℕ)
with_value x [] = x ∷ []
with_value x (y ∷ ys) =
    if is_lt (bytes_cmp x y) then x ∷ y ∷ ys else (if same_value y x then y ∷ ys else y ∷ with_value x ys)

-- ---- the same as tests
-- values ascend in byte order, none twice, as a test
abbrev pub is_ascending : List (List ℕ) → Bool
is_ascending [] = true
is_ascending (x ∷ []) = true
is_ascending (x ∷ y ∷ ys) = is_lt (bytes_cmp x y) && is_ascending (y ∷ ys)

-- at most 16 values, ascending, as a test
abbrev pub is_nomination_set : List (List ℕ) → Bool
is_nomination_set xs = nat_le (length xs) most_nominated && is_ascending xs
