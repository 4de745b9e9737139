-- The list that is published, and what each watch has seen of it.
use Rattle.std.specs.Prelude.{◌≡◌, ℕ, List}
use mathlib.Core.Option.{some}
use mathlib.Core.List.{IsPrefix}
use lib.ListN.{get_elem?}
use Rattle.pool_cell.specs.declared.decision.Decision.{Decision}

-- what is published begins with what each reader has seen
abbrev pub BeginsWithSeen : List Decision → List (List Decision) → Type 0
BeginsWithSeen published views =
    (seat : ℕ) (seen : List Decision) → get_elem? views seat ≡ some seen → IsPrefix seen published

-- who had seen a list sees all of the one that is now published, which begins with it
abbrev pub SeesWhole : List Decision → List Decision → List Decision → List Decision → Type 0
SeesWhole seen before now sees = (sees ≡ now) × IsPrefix seen now
