-- What a set of values is, and what it is combined to. Both go by the values that it has, in whatever order they came.
use Rattle.std.specs.Prelude.{◌≡◌, ℕ, true, false, List, [], MatchOption, ◌||◌}
use Rattle.std.specs.Ordering.{is_lt}
use Rattle.scp_types.specs.Orders.{bytes_cmp}
use Rattle.scp_types.specs.Nominations.{Ascending}
use Rattle.scp_types.specs.Votes.{has_value}
use Rattle.scp_spec.specs.Candidates.{all_with, as_set, combine}

-- a list's values as a set are ascending, and they are exactly the values of the list
abbrev pub SetsAreExact : Type 0
SetsAreExact = (xs : List (List ℕ)) → Ascending (as_set xs) × ((z : List ℕ) → has_value (as_set xs) z ≡ has_value xs z)

-- ascending lists with the same values are one list
abbrev pub SetsAreAlone : Type 0
SetsAreAlone =
    (xs ys : List (List ℕ)) → Ascending xs → Ascending ys → ((z : List ℕ) → has_value xs z ≡ has_value ys z) → xs ≡ ys

-- a set with more values is ascending, and it has its own and those
abbrev pub MoreAreAdded : Type 0
MoreAreAdded = (ys xs : List (List ℕ)) → Ascending xs
    → Ascending (all_with ys xs) × ((z : List ℕ) → has_value (all_with ys xs) z ≡ (has_value ys z || has_value xs z))

-- it is one of the values, and not below any
pub record IsGreatestValue (xs : List (List ℕ)) (g : List ℕ) : Type 0 where
  pub has : has_value xs g ≡ true
  pub above : (y : List ℕ) → has_value xs y ≡ true → is_lt (bytes_cmp g y) ≡ false

-- values are combined to the greatest of them, and to nothing only if there are none
abbrev pub CombinedToGreatest : Type 0
CombinedToGreatest = (xs : List (List ℕ)) → MatchOption (combine xs) (xs ≡ []) (λ g. IsGreatestValue xs g)
