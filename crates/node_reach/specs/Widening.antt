-- Nodes that are reached, but for those to whom the rows of one of them lead.
use Rattle.std.specs.Prelude.{◌≢◌, ◌||◌, ℕ, List, IsTrue}
use Rattle.std.specs.List.{Contains}
use Rattle.scp_types.specs.Trees.{Slices}
use Rattle.scp_types.specs.Statements.{Sent}
use Rattle.scp_spec.specs.Reach.{reach_of}
use Rattle.scp_spec.specs.Satisfaction.{names}
use Rattle.scp_spec.specs.Sets.{Names, among, AreApart, AreWithin, IsAscending}
use Rattle.node_reach.specs.Sweeps.{names_in_rows_of}

-- The node itself and the names of its configured slices are among these nodes, all of which it reaches. So is the
-- sender; and the rows of none but the sender name others.
pub record IsNarrow (own : ℕ) (configured : Slices) (table : List Sent) (sender : ℕ) (nodes : List ℕ) : Type 0 where
  pub itself : IsTrue (among nodes own)
  pub configuration : AreWithin (among (names configured)) (among nodes)
  pub sound : AreWithin (among nodes) (reach_of own configured table)
  pub there : IsTrue (among nodes sender)
  pub rows : (u : ℕ) → IsTrue (among nodes u) → u ≢ sender → AreWithin (names_in_rows_of table u) (among nodes)

-- a set holds the names of each row whose sender is in it
abbrev pub HoldsRows : List Sent → Names → Type 0
HoldsRows table set = (e : Sent) → Contains table e → IsTrue (set e.sender) → AreWithin (among (names e.slices)) set

-- the names of two lists
abbrev pub in_either : List ℕ → List ℕ → Names
in_either xs ys u = among xs u || among ys u

-- The nodes to which a sender's rows lead, but for the known ones. With these they hold all that the sender's rows
-- name, and all that their own do. Each of them is in every set that has the sender and holds what rows name.
pub record AreLedTo (table : List Sent) (known : List ℕ) (sender : ℕ) (nodes : List ℕ) : Type 0 where
  pub ascending : IsAscending nodes
  pub others : AreApart (among nodes) (among known)
  pub first : AreWithin (names_in_rows_of table sender) (in_either known nodes)
  pub rows : (u : ℕ) → IsTrue (among nodes u) → AreWithin (names_in_rows_of table u) (in_either known nodes)
  pub least : (u : ℕ) → IsTrue (among nodes u) → (set : Names) → HoldsRows table set → IsTrue (set sender)
      → IsTrue (set u)
