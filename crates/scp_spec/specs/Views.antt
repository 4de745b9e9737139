-- What a node sees of its table: reached rows, the rows of its leaders, and the federated tests.
use Rattle.std.specs.Prelude.{ℕ, Bool, false, not, ◌&&◌, ◌||◌, ◌==◌, List, ◌∷◌, Option, Some, None, filter, map, filter_map, option_map, if◌then◌else◌}
use Rattle.scp_types.specs.Trees.{Slices}
use Rattle.scp_types.specs.declared.kind.Kind.{Kind}
use Rattle.scp_types.specs.declared.kind.Kind.TheVariants.{Nomination}
use Rattle.scp_types.specs.declared.statement.Statement.{Statement}
use Rattle.scp_types.specs.Statements.{Sent, kind_of}
use Rattle.scp_spec.specs.Sets.{Names}
use Rattle.scp_spec.specs.Satisfaction.{sat, is_blocked}
use Rattle.scp_spec.specs.Quorums.{has_quorum}
use Rattle.scp_spec.specs.Rows.{row, is_kind}
use Rattle.scp_spec.specs.Backing.{slices_by, passing_senders}
use Rattle.scp_spec.specs.Reach.{reach_of}

-- all that the rules read of a table; its two federated tests are told whether the node's own position passes
pub record Seen : Type 0 where
  -- the statements in the rows of the others that are reached
  pub rows : Kind → List Statement
  -- the statements in the nomination rows of the leaders, reached or not
  pub led : List Statement
  -- all members of some quorum that contains the node pass
  pub quorum : Kind → Bool → (Statement → Bool) → Bool
  -- those who pass block the node's slices
  pub blocking : Kind → Bool → (Statement → Bool) → Bool

-- the other nodes that a node reaches: its own position stands for the node itself
abbrev pub others_reached : ℕ → Slices → List Sent → Names
others_reached own configured table u = not (own == u) && reach_of own configured table u

-- the statements in the rows of the others that are reached
unfoldable pub rows_seen : ℕ → Slices → List Sent → Kind → List Statement
rows_seen own configured table kind =
    map (λ e. e.body)
    (filter (λ e. is_kind kind (kind_of e.body) && others_reached own configured table e.sender) table)

-- the statements in the nomination rows of the leaders, in the order in which they became leaders
unfoldable pub led_by : List ℕ → List Sent → List Statement
led_by leaders table = filter_map (λ u. option_map (λ e. e.body) (row table u Nomination)) leaders

-- who passes a test: the node itself if its position does, every other node if its row does
abbrev pub passing_with : ℕ → List Sent → Kind → Bool → (Statement → Bool) → Names
passing_with own table kind own_passes test u = if own == u then own_passes else passing_senders table kind test u

-- All members of some quorum that contains the node pass. Another node without a row of the kind has no slices, and so
-- is in no quorum.
unfoldable pub quorum_passes : ℕ → Slices → List Sent → Kind → Bool → (Statement → Bool) → Bool
quorum_passes own configured table kind own_passes test =
    has_quorum sat (slices_by own configured table kind) (own ∷ map (λ e. e.sender) table)
    (passing_with own table kind own_passes test) own

-- those who pass block the node's slices
unfoldable pub blocking_passes : ℕ → Slices → List Sent → Kind → Bool → (Statement → Bool) → Bool
blocking_passes own configured table kind own_passes test =
    is_blocked configured (passing_with own table kind own_passes test)

-- what a node with these leaders sees of its table
unfoldable pub seen : ℕ → Slices → List ℕ → List Sent → Seen
seen own configured leaders table = record {
  rows = rows_seen own configured table;
  led = led_by leaders table;
  quorum = quorum_passes own configured table;
  blocking = blocking_passes own configured table;
}

-- whether a position passes a test; a node without one supports nothing
abbrev pub passes : (Statement → Bool) → Option Statement → Bool
passes test None = false
passes test (Some s) = test s

-- accepted: a quorum votes for it or accepts it, or those who accept it block
abbrev pub accepted : Seen → Kind → Option Statement → (Statement → Bool) → (Statement → Bool) → Bool
accepted seen kind position backs accepts =
    seen.quorum kind (passes backs position) backs || seen.blocking kind (passes accepts position) accepts

-- confirmed: some quorum that contains the node all accepts it
abbrev pub confirmed : Seen → Kind → Option Statement → (Statement → Bool) → Bool
confirmed seen kind position accepts = seen.quorum kind (passes accepts position) accepts
