-- Names in ascending order, among which one is found. Nothing public speaks of it.
use Rattle.std.specs.Prelude.{◌≡◌, ℕ, ◌<◌, ◌≤◌, true, List, length}
use Rattle.std.proofs.Common.{get_or}
use Rattle.std.specs.List.Sorted.{IsPermutation}
use Rattle.scp_types.specs.Trees.{rises}

-- the second list has the names of the first one in ascending order
pub record AreFound (names ascending : List ℕ) : Type 0 where
  pub rising : rises ascending ≡ true
  pub same : IsPermutation names ascending

-- the place of a name in a list: behind those below it and before those above it
pub record IsPlace (ascending : List ℕ) (u place : ℕ) : Type 0 where
  pub within : place ≤ length ascending
  pub before : (k : ℕ) → k < place → get_or ascending k 0 < u
  pub from : (k : ℕ) → place ≤ k → k < length ascending → u < get_or ascending k 0
