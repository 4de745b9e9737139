-- Ballots that are listed once, so that each search goes through them in order.
use Rattle.std.specs.Prelude.{◌≡◌, ◌⊎◌, ℕ, ◌<◌, ◌≤◌, ◌↔◌, Bool, ◌||◌, true, false, List, [], ◌∷◌, Option, Some, Result, Ok, Err, get_or, length}
use Rattle.std.specs.List.{Contains}
use Rattle.scp_types.specs.declared.ballot.Ballot.{Ballot}
use Rattle.scp_spec.specs.Sameness.{same_ballot}
use Rattle.scp_spec.specs.States.{below}
use Rattle.scp_voting.specs.Searching.{is_under, next_under}

-- each ballot is below all before it, so that none stands twice
abbrev pub IsDescending : List Ballot → Type 0
IsDescending ts = (i j : ℕ) (d : Ballot) → i < j → j < length ts → below (get_or ts j d) (get_or ts i d) ≡ true

-- a list has these ballots and no others
abbrev pub AreListed : List Ballot → List Ballot → Type 0
AreListed listed ts = (t : Ballot) → Contains listed t ↔ Contains ts t

-- of the ballots in a list those are left that are among the ones that stay, or none of those that may go
abbrev pub AreLeft : List Ballot → List Ballot → List Ballot → List Ballot → Type 0
AreLeft staying going old new =
    (t : Ballot) → Contains new t ↔ (Contains old t × (Contains staying t ⊎ (Contains going t → ⊥)))

-- a ballot is one of these
abbrev pub is_one_of : List Ballot → Ballot → Bool
is_one_of [] t = false
is_one_of (s ∷ ts) t = same_ballot s t || is_one_of ts t

-- each search in the list finds what it would find among these ballots
abbrev pub FindsAsAmong : List Ballot → List Ballot → Type 0
FindsAsAmong listed ts = (bound : Option Ballot) → next_under bound listed ≡ next_under bound ts

-- the place in a list of ballots at which those begin that are below the bound, where there is one
pub record IsPlaceUnder (bound : Option Ballot) (ts : List Ballot) (place : ℕ) : Type 0 where
  pub within : place ≤ length ts
  pub before : (i : ℕ) (d : Ballot) → i < place → is_under bound (get_or ts i d) ≡ false
  pub from : (i : ℕ) (d : Ballot) → place ≤ i → i < length ts → is_under bound (get_or ts i d) ≡ true

-- whether a ballot is listed, and the place at which those begin that are below it
abbrev pub IsBallotPlace : Ballot → List Ballot → Result ℕ ℕ → Type 0
IsBallotPlace t ts (Ok i) = IsPlaceUnder (Some t) ts i × Contains ts t
IsBallotPlace t ts (Err i) = IsPlaceUnder (Some t) ts i × (Contains ts t → ⊥)
