-- What a node drew from names, in a book that is ordered by name and has room for more of them.
use Rattle.std.specs.Prelude.{ℕ, List, map, Result}
use Rattle.host_network.specs.Keyed.{IsKeyPlace}
use Rattle.host_network.specs.declared.tallies.Tally.{Tally}

-- a tally for each name, and for how many names more there is room
pub record TallyBook : Type 0 where
  pub tallies : List Tally
  pub room : ℕ

-- the names of which there are tallies
abbrev pub tallied_names : List Tally → List ℕ
tallied_names ts = map (λ t. t.from) ts

-- the place of a name's tally; or it has none, and this is where one would keep the names ascending
abbrev pub IsTallyPlace : List Tally → ℕ → Result ℕ ℕ → Type 0
IsTallyPlace ts u r = IsKeyPlace (λ t. t.from) ts u r
