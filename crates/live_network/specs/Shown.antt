-- The lines of a node at a slot.
use Rattle.std.specs.Prelude.{◌≡◌, ◌==◌, ◌&&◌, ◌||◌, ◌++◌, ◌∷◌, [], ℕ, Bool, not, is_some, List, Option, Some, None, codes}
use Rattle.std.specs.List.{flat_map}
use Rattle.std.specs.Fmt.{decimal}
use Rattle.scp_types.specs.Statements.{Sent}
use Rattle.scp_types.specs.declared.kind.Kind.{Kind}
use Rattle.scp_types.specs.declared.kind.Kind.TheVariants.{Nomination}
use Rattle.scp_types.specs.declared.state.Votes.{Votes}
use Rattle.scp_spec.specs.Nodes.{Node}
use Rattle.scp_spec.specs.Rows.{row}
use Rattle.scp_spec.specs.Satisfaction.{names}
use Rattle.scp_spec.specs.Sets.{IsAscending, among}
use Rattle.node_table.specs.Senders.{senders}
use Rattle.line_script.specs.Script.{Bytes}
use Rattle.line_script.specs.Names.{text_of_name}
use Rattle.line_script.specs.Values.{text_of_value}
use Rattle.line_script.specs.Printed.{text_of_slices, text_of_statement}
use Rattle.live_network.specs.State.{text_of_state}

-- what each line begins with: the number of the line that is answered, the network, the slot and the name of the node,
-- a space (32) behind each
abbrev pub front_of : ℕ → ℕ → ℕ → ℕ → Bytes
front_of n g i u = decimal n ++ 32 ∷ (decimal g ++ 32 ∷ (decimal i ++ 32 ∷ (text_of_name u ++ 32 ∷ [])))

-- a line with its line feed (10)
abbrev pub line_of : Bytes → Bytes → Bytes
line_of front words = front ++ (words ++ 10 ∷ [])

-- the line of how far a node is
abbrev pub state_line : Bytes → Node → Bytes
state_line front n = line_of front (text_of_state n)

-- ---- values

-- a value with a space (32) before it
abbrev pub value_behind_space : Bytes → Bytes
value_behind_space v = 32 ∷ text_of_value v

-- a line of values behind a word
unfoldable pub values_line : Bytes → Bytes → List Bytes → Bytes
values_line front word vs = line_of front (word ++ flat_map value_behind_space vs)

-- the lines of the values that are voted for, accepted and confirmed as nominated
abbrev pub value_lines : Bytes → Votes → Bytes
value_lines front w =
    values_line front (codes "voted") w.voted
    ++ (values_line front (codes "accepted") w.accepts ++ values_line front (codes "confirmed") w.confirms)

-- ---- rows

-- a row in words: its sender, its slices and its statement, with a space (32) between each and the next
abbrev pub text_of_shown_row : Sent → Bytes
text_of_shown_row e =
    codes "row " ++ (text_of_name e.sender ++ 32 ∷ (text_of_slices e.slices ++ 32 ∷ text_of_statement e.body))

-- the line of a row, if there is one
abbrev pub row_line : Bytes → Option Sent → Bytes
row_line front None = []
row_line front (Some e) = line_of front (text_of_shown_row e)

-- the lines of a sender's rows, that of its nomination first
abbrev pub rows_of_sender : Bytes → List Sent → ℕ → Bytes
rows_of_sender front table u = row_line front (row table u Nomination) ++ row_line front (row table u Kind.Ballot)

-- the lines of all rows, ascending by sender
abbrev pub row_lines : Bytes → List Sent → Bytes
row_lines front table = flat_map (rows_of_sender front table) (senders table)

-- ---- who is silent

-- a sender has a row, of either kind
abbrev pub has_row : List Sent → ℕ → Bool
has_row table u = is_some (row table u Nomination) || is_some (row table u Kind.Ballot)

-- a name of a node's slices is silent: it is another's, and has no row
abbrev pub is_silent : Node → ℕ → Bool
is_silent n u = not ((u == n.name) || has_row n.table u)

-- these are the silent names of a node's slices, ascending
pub record AreSilent (n : Node) (us : List ℕ) : Type 0 where
  pub ascending : IsAscending us
  pub exactly : (u : ℕ) → among us u ≡ (is_silent n u && among (names n.slices) u)

-- a name with a space (32) before it
abbrev pub spaced_name : ℕ → Bytes
spaced_name u = 32 ∷ text_of_name u

-- the line of names that are silent
abbrev pub silent_line : Bytes → List ℕ → Bytes
silent_line front us = line_of front (codes "silent" ++ flat_map spaced_name us)

-- ---- a node

-- the lines of how far a node is, of its values and of its rows
abbrev pub known_lines : Bytes → Node → Bytes
known_lines front n = state_line front n ++ (value_lines front n.votes ++ row_lines front n.table)

-- the lines that say what a node is: those, and the line of who is silent
abbrev pub node_lines : Bytes → Node → List ℕ → Bytes
node_lines front n us = known_lines front n ++ silent_line front us

-- these are the lines that show a node at a slot of a network, for the line of a number
abbrev pub Shows : ℕ → ℕ → ℕ → Node → Bytes → Type 0
Shows line g i n lines = (us : List ℕ) × AreSilent n us × (lines ≡ node_lines (front_of line g i n.name) n us)
