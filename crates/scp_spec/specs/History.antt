-- A row as a function of the whole list of envelopes that were offered.
use Rattle.std.specs.Prelude.{ℕ, Bool, true, false, not, List, [], ◌∷◌, Option, Some, None, filter, if◌then◌else◌}
use Rattle.std.specs.List.{find, list_all}
use Rattle.std.specs.Option.{option_or}
use Rattle.scp_types.specs.declared.kind.Kind.{Kind}
use Rattle.scp_types.specs.declared.kind.Kind.TheVariants.{Nomination}
use Rattle.scp_types.specs.declared.statement.Statement.{Statement}
use Rattle.scp_types.specs.declared.statement.Statement.TheVariants.{Nominate, Prepare, Commit, Externalize}
use Rattle.scp_types.specs.Statements.{Sent}
use Rattle.scp_spec.specs.Newer.{is_newer, is_above}
use Rattle.scp_spec.specs.Rows.{is_row_of}

-- the statement is an EXTERNALIZE
abbrev pub is_externalize : Statement → Bool
is_externalize (Nominate voted accepted) = false
is_externalize (Prepare ballot prepared aborted high commit) = false
is_externalize (Commit ballot prepared high commit) = false
is_externalize (Externalize commit high) = true

abbrev pub first_externalize : List Sent → Option Sent
first_externalize sent = find (λ e. is_externalize e.body) sent

-- no statement of the list is above this envelope's
abbrev pub is_greatest_of : List Sent → Sent → Bool
is_greatest_of sent e = list_all (λ x. not (is_above x.body e.body)) sent

-- the first whose statement is the greatest of theirs
abbrev pub first_greatest : List Sent → Option Sent
first_greatest sent = find (is_greatest_of sent) sent

-- The row after these envelopes, from the one that stands at first, if there is one. Each envelope that is newer than
-- the row before it becomes the row. Without a row any does.
abbrev pub last_newer : Option Sent → List Sent → Option Sent
last_newer standing [] = standing
last_newer None (e ∷ es) = last_newer (Some e) es
last_newer (Some r) (e ∷ es) = last_newer (Some (if is_newer e.body r.body then e else r)) es

-- The row of one sender and kind, from all that it sent of that kind. For ballots it is the first EXTERNALIZE, else the
-- first of the greatest. For nominations it is the last that was newer than the row before it.
abbrev pub row_among : Kind → List Sent → Option Sent
row_among Nomination sent = last_newer None sent
row_among Kind.Ballot sent = option_or (first_externalize sent) (first_greatest sent)

-- the sender's row of a kind, from the whole list of envelopes
unfoldable pub row_of : List Sent → ℕ → Kind → Option Sent
row_of taken u k = row_among k (filter (is_row_of u k) taken)
