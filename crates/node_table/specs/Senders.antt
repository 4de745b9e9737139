-- The senders of a table, as an ascending list.
use Rattle.std.specs.Prelude.{ℕ, List, [], ◌∷◌, ◌==◌, nat_lt, if◌then◌else◌}
use Rattle.std.specs.List.{fold}
use Rattle.scp_types.specs.Statements.{Sent}

-- an ascending list of names with one more, unless it is there
abbrev pub with_name : List ℕ → ℕ → List ℕ
with_name [] u = u ∷ []
with_name (w ∷ ws) u = if nat_lt w u then w ∷ with_name ws u else (if w == u then w ∷ ws else u ∷ w ∷ ws)

-- the names of all senders with a row, ascending, each once
unfoldable pub senders : List Sent → List ℕ
senders table = fold (λ names e. with_name names e.sender) [] table
