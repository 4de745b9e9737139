-- Names on a roster.
use Rattle.std.specs.Prelude.{ℕ, List, IsTrue, IsFalse}
use Rattle.scp_spec.specs.Sets.{among}

-- a name is on a roster
abbrev pub IsOnRoster : List ℕ → ℕ → Type 0
IsOnRoster names u = IsTrue (among names u)

-- a name is not on a roster
abbrev pub IsOff : List ℕ → ℕ → Type 0
IsOff names u = IsFalse (among names u)
