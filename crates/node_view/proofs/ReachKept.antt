-- What keeps a reach leaves it as it is.
use Rattle.std.proofs.Common.{◌≡◌, ℕ, List, Some, option_map, IsFalse}
use Rattle.scp_types.specs.Trees.{Slices}
use Rattle.scp_types.specs.Statements.{Sent, kind_of}
use Rattle.scp_spec.specs.Rows.{row, with_row}
use Rattle.scp_spec.specs.Reach.{IsReach}
use Rattle.scp_spec.proofs.Statements.Found.{slices_of_row}
use Rattle.scp_spec.proofs.Reach.Stays.{stays_with_same_slices, stays_with_strangers}
use Rattle.scp_spec.specs.Sets.{among}

-- the sender of the envelope is not in the reach, or its row of that kind has the same slices
pub data KeepsReach (reach : List ℕ) (table : List Sent) (e : Sent) : Type 0 where
  stranger : IsFalse (among reach e.sender) → KeepsReach reach table e
  same_slices : option_map (λ r. r.slices) (row table e.sender (kind_of e.body)) ≡ Some e.slices
      → KeepsReach reach table e

pub reach_kept : (reach : List ℕ) (table : List Sent) (e : Sent) → KeepsReach reach table e → (own : ℕ) (configured : Slices) → IsReach own configured table reach → IsReach own configured (with_row e table) reach
reach_kept reach table e (stranger n) own configured is = stays_with_strangers own configured table reach e n is
reach_kept reach table e (same_slices s) own configured is =
    let old = slices_of_row (row table e.sender (kind_of e.body)) e.slices s in
    stays_with_same_slices own configured table reach e old.0 old.1 old.2 is
