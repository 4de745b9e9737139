-- The reach of a node: whom it may come to depend on, by its own slices and by the rows of a table.
use Rattle.std.specs.Prelude.{◌≡◌, ℕ, List, [], ◌∷◌, map, Some, None, IsTrue, IsFalse, ◌↔◌}
use Rattle.std.specs.List.{Contains}
use Rattle.scp_types.specs.Trees.{Slices}
use Rattle.scp_types.specs.declared.kind.Kind.{Kind}
use Rattle.scp_types.specs.Statements.{Sent, kind_of}
use Rattle.scp_spec.specs.Sets.{Names, among, AreWithin, IsAscending}
use Rattle.scp_spec.specs.Satisfaction.{names}
use Rattle.scp_spec.specs.Quorums.{NamesWithin}
use Rattle.scp_spec.specs.Rows.{row, with_row}
use Rattle.scp_spec.specs.Backing.{slices_by}
use Rattle.scp_spec.specs.Closures.{Rule, in_least}

-- if the sender of a row is in, so are the names of its slices
abbrev pub rule_of : Sent → Rule
rule_of e = record { sources = e.sender ∷ []; gives = names e.slices }

-- the rules of a node: one by its configured slices, and one by each row of the table, of either kind
abbrev pub rules_of : ℕ → Slices → List Sent → List Rule
rules_of own configured table = record { sources = own ∷ []; gives = names configured } ∷ map rule_of table

-- the nodes that a node reaches: itself, the names of its configured slices, and the names in any row whose sender is
-- reached
unfoldable pub reach_of : ℕ → Slices → List Sent → Names
reach_of own configured table = in_least (rules_of own configured table) own

-- the list has the nodes that a node reaches, ascending, none twice; it holds all names of its members' slices
pub record IsReach (own : ℕ) (configured : Slices) (table : List Sent) (reach : List ℕ) : Type 0 where
  pub ascending : IsAscending reach
  pub exactly : (u : ℕ) → among reach u ≡ reach_of own configured table u
  pub closed : (kind : Kind) → NamesWithin names (slices_by own configured table kind) (among reach)

-- a node is named in the slices of another: in the configured ones of the node itself, or in those of a row
pub data IsNamed (own : ℕ) (configured : Slices) (table : List Sent) (by u : ℕ) : Type 0 where
  in_configuration : own ≡ by → IsTrue (among (names configured) u) → IsNamed own configured table by u
  in_row : (e : Sent) → Contains table e → e.sender ≡ by → IsTrue (among (names e.slices) u)
      → IsNamed own configured table by u

-- a chain from a node to another: each next one is named in the slices of the one before
pub data Chain (own : ℕ) (configured : Slices) (table : List Sent) : ℕ → Type 0 where
  here : Chain own configured table own
  next : {by u : ℕ} → Chain own configured table by → IsNamed own configured table by u → Chain own configured table u

-- a set contains the node, the names of its configured slices, and those of each row whose sender is in the set
pub record HoldsReach (own : ℕ) (configured : Slices) (table : List Sent) (set : Names) : Type 0 where
  pub itself : IsTrue (set own)
  pub configuration : AreWithin (among (names configured)) set
  pub rows : (e : Sent) → Contains table e → IsTrue (set e.sender) → AreWithin (among (names e.slices)) set

-- it is such a set, and lies in each of them
pub record IsLeastReach (own : ℕ) (configured : Slices) (table : List Sent) (set : Names) : Type 0 where
  pub holds : HoldsReach own configured table set
  pub least : (other : Names) → HoldsReach own configured table other → AreWithin set other

-- the reach is the least set that contains the node and keeps what its members' slices name
abbrev pub ReachIsLeast : Type 0
ReachIsLeast = (own : ℕ) (configured : Slices) (table : List Sent)
    → IsLeastReach own configured table (reach_of own configured table)

-- a node is reached exactly if a chain leads to it
abbrev pub ReachFollowsChains : Type 0
ReachFollowsChains = (own : ℕ) (configured : Slices) (table : List Sent) (u : ℕ)
    → IsTrue (reach_of own configured table u) ↔ Chain own configured table u

-- the reach holds all names of its members' slices, by the configuration and by the rows of either kind
abbrev pub ReachHoldsNames : Type 0
ReachHoldsNames = (own : ℕ) (configured : Slices) (table : List Sent) (kind : Kind)
    → NamesWithin names (slices_by own configured table kind) (reach_of own configured table)

-- the reach stays if a row comes in the place of one with the same slices
abbrev pub StaysWithSameSlices : Type 0
StaysWithSameSlices = (own : ℕ) (configured : Slices) (table : List Sent) (reach : List ℕ) (e old : Sent)
    → row table e.sender (kind_of e.body) ≡ Some old → old.slices ≡ e.slices → IsReach own configured table reach
    → IsReach own configured (with_row e table) reach

-- the reach stays if a row comes whose sender is not reached
abbrev pub StaysWithStrangers : Type 0
StaysWithStrangers = (own : ℕ) (configured : Slices) (table : List Sent) (reach : List ℕ) (e : Sent)
    → IsFalse (among reach e.sender) → IsReach own configured table reach
    → IsReach own configured (with_row e table) reach

-- the reach stays if a sender's first row of a kind comes and names only reached nodes
abbrev pub StaysWithFirstRows : Type 0
StaysWithFirstRows = (own : ℕ) (configured : Slices) (table : List Sent) (reach : List ℕ) (e : Sent)
    → row table e.sender (kind_of e.body) ≡ None → AreWithin (among (names e.slices)) (among reach)
    → IsReach own configured table reach → IsReach own configured (with_row e table) reach
