-- Offers to an empty table, and which of them it takes.
use Rattle.std.proofs.Common.{◌≡◌, ℕ, Bool, true, false, List, [], ◌∷◌, Some, None, refl}
use Rattle.scp_types.specs.declared.statement.Statement.{Statement}
use Rattle.scp_types.specs.declared.statement.Statement.TheVariants.{Nominate, Prepare, Externalize}
use Rattle.scp_types.specs.Statements.{Sent}
use Rattle.scp_spec.proofs.Worked.Letters.{k, m, x, y, at, just, by}
use Rattle.scp_spec.specs.Rows.{row, with_row, is_taken, table_with_offer}

-- what a table answers to each of the envelopes, offered in their order
abbrev answers : List Sent → List Sent → List Bool
answers table [] = []
answers table (e ∷ es) = is_taken table e ∷ answers (table_with_offer table e) es

abbrev from : ℕ → Statement → Sent
from u s = by u (just u) s

-- an equal statement and an older one are stale
pub older_is_stale : answers []
    (from 2 (Prepare (at 9 m) (Some (at 9 m)) 6 0 0) ∷ from 2 (Prepare (at 9 m) (Some (at 9 m)) 6 0 0) ∷ from 2
    (Prepare (at 8 k) None 0 0 0) ∷ []) ≡ true ∷ false ∷ false ∷ []
unfolding row with_row is_taken table_with_offer
older_is_stale = refl

-- so is a nomination that lacks an old value
pub other_value_is_stale : answers [] (from 2 (Nominate (x ∷ []) []) ∷ from 2 (Nominate (y ∷ []) []) ∷ [])
    ≡ true ∷ false ∷ []
unfolding row with_row is_taken table_with_offer
other_value_is_stale = refl

-- nothing replaces an EXTERNALIZE, however great its counter
pub externalize_stands : answers []
    (from 2 (Externalize (at 3 x) 3) ∷ from 2 (Prepare (at 4294967294 x) None 0 0 0) ∷ [])
    ≡ true ∷ false ∷ []
unfolding row with_row is_taken table_with_offer
externalize_stands = refl
