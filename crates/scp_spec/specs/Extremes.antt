-- What the greatest and the least of candidates are: so that a search may go in any order.
use Rattle.std.specs.Prelude.{◌≡◌, ℕ, ◌+◌, ◌≤◌, ◌<◌, ◌⊎◌, Bool, true, false, List, [], ◌∷◌, ◌++◌, Option, Some, None, option_to_list}
use Rattle.scp_types.specs.declared.ballot.Ballot.{Ballot}
use Rattle.scp_types.specs.Votes.{same_value}
use Rattle.scp_spec.specs.States.{below}
use Rattle.scp_spec.specs.Candidates.{greatest, lowest, least_from}

-- the ballot is one of the list
abbrev pub IsIn : Ballot → List Ballot → Type 0
IsIn g [] = ⊥
IsIn g (t ∷ ts) = (g ≡ t) ⊎ IsIn g ts

-- it is one of the list, and not below any
pub record IsGreatest (ts : List Ballot) (g : Ballot) : Type 0 where
  pub has : IsIn g ts
  pub above : (t : Ballot) → IsIn t ts → below g t ≡ false

-- the greatest of a list; none if the list is empty
pub data IsGreatestIn (ts : List Ballot) : Option Ballot → Type 0 where
  nothing : ts ≡ [] → IsGreatestIn ts None
  this : {g : Ballot} → IsGreatest ts g → IsGreatestIn ts (Some g)

-- what the rules call the greatest is the greatest of the candidates and of what is there
abbrev pub GreatestIsExact : Type 0
GreatestIsExact =
    (best : Option Ballot) (ts : List Ballot) → IsGreatestIn (option_to_list best ++ ts) (greatest best ts)

-- there is only one greatest of the candidates and of what is there
abbrev pub GreatestIsUnique : Type 0
GreatestIsUnique = (ts : List Ballot) (g h : Ballot) → IsGreatest ts g → IsGreatest ts h → g ≡ h

-- not above `low` nor above any candidate of the value that passes; and `low` itself or the counter of one
pub record IsLowest (test : ℕ → Bool) (x : List ℕ) (low : ℕ) (ts : List Ballot) (n : ℕ) : Type 0 where
  pub upto : n ≤ low
  pub below : (t : Ballot) → IsIn t ts → same_value t.value x ≡ true → test t.counter ≡ true → n ≤ t.counter
  pub from : (n ≡ low)
      ⊎ ((t : Ballot) × (IsIn t ts × ((same_value t.value x ≡ true) × ((test t.counter ≡ true) × (t.counter ≡ n)))))

-- what the rules call the lowest counter is the least of `low` and of the candidates of the value that pass the test
abbrev pub LowestIsExact : Type 0
LowestIsExact =
    (test : ℕ → Bool) (x : List ℕ) (low : ℕ) (ts : List Ballot) → IsLowest test x low ts (lowest test x low ts)

-- from n on the first number that passes, or n + fuel if none before it does
pub record IsLeastFrom (test : ℕ → Bool) (fuel n found : ℕ) : Type 0 where
  pub low : n ≤ found
  pub high : found ≤ n + fuel
  pub passes : found < n + fuel → test found ≡ true
  pub first : (k : ℕ) → n ≤ k → k < found → test k ≡ false

-- what the rules call the least number is the least that passes the test, or n + fuel if none before it does
abbrev pub LeastFromIsExact : Type 0
LeastFromIsExact = (test : ℕ → Bool) (fuel n : ℕ) → IsLeastFrom test fuel n (least_from fuel n test)
