-- Tables: at most one row of each sender and kind, in the order in which they first came.
use Rattle.std.specs.Prelude.{ℕ, Bool, true, false, not, ◌&&◌, ◌==◌, List, [], ◌∷◌, Option, Some, None, if◌then◌else◌}
use Rattle.std.specs.List.{find, fold, list_all}
use Rattle.scp_types.specs.declared.kind.Kind.{Kind}
use Rattle.scp_types.specs.declared.kind.Kind.TheVariants.{Nomination}
use Rattle.scp_types.specs.Statements.{Sent, kind_of}
use Rattle.scp_spec.specs.Newer.{is_newer}

-- two kinds are the same, as a test
abbrev pub is_kind : Kind → Kind → Bool
is_kind Nomination Nomination = true
is_kind Nomination Kind.Ballot = false
is_kind Kind.Ballot Nomination = false
is_kind Kind.Ballot Kind.Ballot = true

-- whether an envelope is the sender's, and its statement of this kind
abbrev pub is_row_of : ℕ → Kind → Sent → Bool
is_row_of u k e = (e.sender == u) && is_kind k (kind_of e.body)

-- no two envelopes are of one sender and kind
abbrev pub has_single_rows : List Sent → Bool
has_single_rows [] = true
has_single_rows (e ∷ es) = list_all (λ x. not (is_row_of e.sender (kind_of e.body) x)) es && has_single_rows es

-- the sender's row of a kind in a table
unfoldable pub row : List Sent → ℕ → Kind → Option Sent
row table u k = find (is_row_of u k) table

-- the table with the envelope in the place of its sender's row of that kind, or at the end if there is none
unfoldable pub with_row : Sent → List Sent → List Sent
with_row e [] = e ∷ []
with_row e (x ∷ xs) = if is_row_of e.sender (kind_of e.body) x then e ∷ xs else x ∷ with_row e xs

-- an envelope replaces a row that it is newer than, and stands if there is no row
abbrev pub replaces : Sent → Option Sent → Bool
replaces e None = true
replaces e (Some r) = is_newer e.body r.body

-- whether the table takes the envelope; what it does not take is stale
unfoldable pub is_taken : List Sent → Sent → Bool
is_taken table e = replaces e (row table e.sender (kind_of e.body))

-- the table after an offer; a stale envelope changes nothing
unfoldable pub table_with_offer : List Sent → Sent → List Sent
table_with_offer table e = if is_taken table e then with_row e table else table

-- the table after offers to it, in their order
abbrev pub table_with_offers : List Sent → List Sent → List Sent
table_with_offers = fold table_with_offer

-- the table after all envelopes of a list were offered, in their order, to an empty one
unfoldable pub table_after : List Sent → List Sent
table_after taken = table_with_offers [] taken
