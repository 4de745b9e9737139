-- Places of nodes whose rows say the same, in groups.
use Rattle.std.specs.Prelude.{◌≡◌, ℕ, ◌≤◌, ◌==◌, List, [], Option, None, IsTrue, get_or, if◌then◌else◌, is_some, length, nat_lt}
use Rattle.scp_types.specs.declared.statement.Statement.{Statement}
use Rattle.scp_bits.specs.Places.{bit_of}
use Rattle.scp_spec.specs.Rows.{row}
use Rattle.node_view.specs.Watching.{RowsOfNodes, said_by_another}
use Rattle.node_view.specs.declared.alike.Alike.{Alike}

-- what the row at a place among the nodes says, if it is of another node than this one
abbrev pub said_at : ℕ → RowsOfNodes → ℕ → Option Statement
said_at own rows i =
    if nat_lt i (length rows.nodes) then said_by_another own (row rows.table (get_or rows.nodes i 0) rows.kind) else None

-- at each place of a set something is said, and at all of them the same
pub record IsGroup (said : ℕ → Option Statement) (ws : List ℕ) : Type 0 where
  pub something : (i : ℕ) → bit_of ws i ≡ 1 → IsTrue (is_some (said i))
  pub same : (i k : ℕ) → bit_of ws i ≡ 1 → bit_of ws k ≡ 1 → said i ≡ said k

-- each of these sets is such a group
abbrev pub AreGroups : (ℕ → Option Statement) → List (List ℕ) → Type 0
AreGroups said gs = (j : ℕ) → IsGroup said (get_or gs j [])

-- a place is in no group, and not in the rest
pub record IsOutside (a : Alike) (i : ℕ) : Type 0 where
  pub groups : (j : ℕ) → bit_of (get_or a.groups.items j []) i ≡ 0
  pub rest : bit_of a.rest i ≡ 0

-- The rows at the places of a group say the same. At a place that is in no group and not in the rest no row of another
-- node stands. The nodes are so few that a set has room for them.
pub record AreGrouped (own : ℕ) (rows : RowsOfNodes) (a : Alike) : Type 0 where
  pub few : length rows.nodes ≤ 512
  pub groups : AreGroups (said_at own rows) a.groups.items
  pub outside : (i : ℕ) → IsOutside a i → said_at own rows i ≡ None

-- The rows at the places of a group say the same, and each row of another node is at such a place. The nodes are so few
-- that a set has room for them.
pub record AreAllGrouped (own : ℕ) (rows : RowsOfNodes) (gs : List (List ℕ)) : Type 0 where
  pub few : length rows.nodes ≤ 512
  pub groups : AreGroups (said_at own rows) gs
  pub outside : (i : ℕ) → ((j : ℕ) → bit_of (get_or gs j []) i ≡ 0) → said_at own rows i ≡ None

-- a place has left its group and the rest, and all others are where they were
pub record HasLeft (place : ℕ) (old new : Alike) : Type 0 where
  pub groups : (j i : ℕ)
      → bit_of (get_or new.groups.items j []) i ≡ (if place == i then 0 else bit_of (get_or old.groups.items j []) i)
  pub rest : (i : ℕ) → bit_of new.rest i ≡ (if place == i then 0 else bit_of old.rest i)
