-- What a view keeps of a table.
use Rattle.std.specs.Prelude.{◌≡◌, ℕ, ◌<◌, ◌==◌, ◌&&◌, List, Bool, Option, Some, None, filter_map, flat_map, get_or, length, nat_lt, if◌then◌else◌, map, option_map, slice_get}
use Rattle.scp_types.specs.declared.kind.Kind.{Kind}
use Rattle.scp_types.specs.declared.statement.Statement.{Statement}
use Rattle.scp_types.specs.Statements.{Sent}
use Rattle.node_table.specs.Places.{place_of_row}
use Rattle.scp_spec.specs.Rows.{row}
use Rattle.scp_spec.specs.Candidates.{as_set, values_by}
use Rattle.scp_spec.specs.Views.{passing_with}
use Rattle.scp_voting.specs.Searching.{lesser}

-- the rows of a kind that some nodes have in a table, kept for look-ups
pub record RowsOfNodes : Type 0 where
  pub nodes : List ℕ
  pub table : List Sent
  pub kind : Kind

-- the first of these nodes, of whom places are kept, have their rows of a kind there
abbrev pub ArePlaces : List Sent → Kind → List ℕ → List (Option ℕ) → Type 0
ArePlaces table kind nodes places =
    (i : ℕ) → i < length places → get_or places i None ≡ place_of_row table (get_or nodes i 0) kind

-- the rows of a kind that these nodes have, in the order of the nodes: nothing for a node without one
abbrev pub rows_at : Kind → List Sent → List ℕ → List (Option Sent)
rows_at kind table nodes = map (λ u. row table u kind) nodes

-- whether the node at a place passes a test: the node itself where its position does, another where its row does
abbrev pub passes_at : RowsOfNodes → ℕ → Bool → (Statement → Bool) → ℕ → Bool
passes_at rows own_place own_passes test i =
    passing_with (get_or rows.nodes own_place 0) rows.table rows.kind own_passes test (get_or rows.nodes i 0)

-- a node stands at the place among the reached ones, and passes the test
abbrev pub passes_within : RowsOfNodes → ℕ → Bool → (Statement → Bool) → ℕ → Bool
passes_within rows own_place own_passes test i =
    nat_lt i (length rows.nodes) && passes_at rows own_place own_passes test i

-- the row at a place in a table: nothing without a place
abbrev pub row_where : List Sent → Option ℕ → Option Sent
row_where table None = None
row_where table (Some i) = slice_get table i

-- the statements in the rows of a kind that these nodes have
abbrev pub rows_by : Kind → List Sent → List ℕ → List Statement
rows_by kind table nodes = filter_map (λ u. option_map (λ e. e.body) (row table u kind)) nodes

-- what an envelope says, where it is of another node than this one
abbrev pub said_by_another : ℕ → Option Sent → Option Statement
said_by_another own None = None
said_by_another own (Some e) = if own == e.sender then None else Some e.body

-- the statements in the rows of a kind that the others of these nodes have
abbrev pub rows_of_others : ℕ → Kind → List Sent → List ℕ → List Statement
rows_of_others own kind table nodes = filter_map (λ u. said_by_another own (row table u kind)) nodes

-- the values that these statements vote for or accept as nominated, as a set
abbrev pub values_in : List Statement → List (List ℕ)
values_in statements = as_set (flat_map values_by statements)

-- the lesser of two numbers, where there are two, else the one
abbrev pub lesser_of : Option ℕ → Option ℕ → Option ℕ
lesser_of None o = o
lesser_of (Some k) o = lesser k o
