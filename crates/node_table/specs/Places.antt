-- Where in a list of rows the rows of a sender stand.
use Rattle.std.specs.Prelude.{◌≡◌, ℕ, suc, Bool, true, List, [], ◌∷◌, ◌==◌, ◌&&◌, nat_lt, cond, map, Option, Some, None, is_none, option_map, if◌then◌else◌}
use Rattle.std.specs.List.{list_all}
use Rattle.scp_types.specs.declared.kind.Kind.{Kind}
use Rattle.scp_types.specs.declared.kind.Kind.TheVariants.{Nomination}
use Rattle.scp_types.specs.Statements.{Sent}
use Rattle.scp_spec.specs.Rows.{is_row_of, has_single_rows}
use Rattle.node_table.specs.declared.places.RowPlaces.{RowPlaces}
use Rattle.node_table.specs.Senders.{senders}

-- a sender, and the places of both its rows
pub record Places : Type 0 where
  pub sender : ℕ
  pub nomination : Option ℕ
  pub ballot : Option ℕ

-- the index of the first element that passes the test
abbrev pub place_by : {X : Type 0} → (X → Bool) → List X → Option ℕ
place_by test [] = None
place_by test (x ∷ xs) = cond (test x) (Some 0) (option_map suc (place_by test xs))

-- the place of a sender's row of a kind
abbrev pub place_of_row : List Sent → ℕ → Kind → Option ℕ
place_of_row rows u k = place_by (is_row_of u k) rows

-- the places of both its rows
abbrev pub places_of : List Sent → ℕ → Places
places_of rows u =
    record { sender = u; nomination = place_of_row rows u Nomination; ballot = place_of_row rows u Kind.Ballot }

-- the places of all senders, ascending by name
unfoldable pub index_of : List Sent → List Places
index_of rows = map (places_of rows) (senders rows)

-- ---- one place more
-- the place that a sender has for its row of a kind
abbrev pub place_in : Places → Kind → Option ℕ
place_in p Nomination = p.nomination
place_in p Kind.Ballot = p.ballot

-- the places of a sender, with this one for a kind
abbrev pub with_place : Places → Kind → ℕ → Places
with_place p Nomination n = record p { nomination = Some n }
with_place p Kind.Ballot n = record p { ballot = Some n }

-- the places of a sender with a single row
abbrev pub only_place : ℕ → Kind → ℕ → Places
only_place u k n = with_place (record { sender = u; nomination = None; ballot = None }) k n

-- each sender of an index is below all later ones
abbrev pub ascends : List Places → Bool
ascends [] = true
ascends (p ∷ ps) = list_all (λ q. nat_lt p.sender q.sender) ps && ascends ps

-- the place that an index has for a sender's row of a kind
abbrev pub place_in_index : List Places → ℕ → Kind → Option ℕ
place_in_index [] u k = None
place_in_index (p ∷ ps) u k = if p.sender == u then place_in p k else place_in_index ps u k

-- an index in which a sender's row of a kind has this place
abbrev pub index_with_place : List Places → ℕ → Kind → ℕ → List Places
index_with_place [] u k n = only_place u k n ∷ []
index_with_place (p ∷ ps) u k n =
    if nat_lt p.sender u then p
    ∷ index_with_place ps u k n else (if p.sender == u then with_place p k n ∷ ps else only_place u k n ∷ p ∷ ps)

-- ---- one place less
-- the places of a sender, without the one for a kind
abbrev pub without_place : Places → Kind → Places
without_place p Nomination = record p { nomination = None }
without_place p Kind.Ballot = record p { ballot = None }

-- the sender has no row, of either kind
abbrev pub is_vacant : Places → Bool
is_vacant p = is_none p.nomination && is_none p.ballot

-- an index without the place of a sender's row of a kind; a sender that has no other row leaves it
abbrev pub index_without_place : List Places → ℕ → Kind → List Places
index_without_place [] u k = []
index_without_place (p ∷ ps) u k =
    if p.sender == u then (if is_vacant (without_place p k) then ps else without_place p k ∷ ps) else p
    ∷ index_without_place ps u k

-- ---- an index as the code keeps it
-- places as the code keeps them, as those of a sender
abbrev pub of_sender : ℕ → RowPlaces → Places
of_sender u p = record { sender = u; nomination = p.nomination; ballot = p.ballot }

-- the index that a map from senders to places stands for
abbrev pub index_of_entries : List (ℕ × RowPlaces) → List Places
index_of_entries entries = map (λ e. of_sender e.0 e.1) entries

-- the places that an index has for a sender: none, if it does not have the sender
abbrev pub places_in_index : List Places → ℕ → Places
places_in_index [] u = record { sender = u; nomination = None; ballot = None }
places_in_index (p ∷ ps) u = if p.sender == u then p else places_in_index ps u

-- rows with their index: one row at most of each sender and kind, and the places of all
pub record IsIndexed (rows : List Sent) (index : List Places) : Type 0 where
  pub single : has_single_rows rows ≡ true
  pub indexed : index ≡ index_of rows
