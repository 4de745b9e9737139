-- What is said of a part once it is read: its fault, or None if it has none. If several could be named, the first is.
use Rattle.std.specs.Prelude.{◌≡◌, ℕ, List, [], ◌∷◌, length, Option, Some, None, Bool, nat_lt, ◌==◌, if◌then◌else◌}
use Rattle.std.specs.List.{list_any}
use Rattle.scp_codec.specs.declared.error.Fault.{Fault}
use Rattle.scp_codec.specs.declared.error.Fault.TheVariants.{Version, Kind, Limit, BadSlices, BadStatement, SpareVersion}
use Rattle.scp_types.specs.Trees.{Slices, most_members, most_names}
use Rattle.scp_codec.specs.Spelling.{version_of}
use Rattle.scp_types.specs.Nominations.{most_nominated}
use Rattle.scp_types.specs.declared.statement.Statement.{Statement}
use Rattle.scp_types.specs.Statements.{is_well_formed}

-- a version other than 1 and 2
abbrev pub version_fault : ℕ → Option Fault
version_fault v = if v == 1 then None else if v == 2 then None else Some Version

-- a text that begins with another version
abbrev pub HasOtherVersion : List ℕ → Type 0
HasOtherVersion [] = ⊥
HasOtherVersion (v ∷ rest) = version_fault v ≡ Some Version

-- slices in a version that is not theirs: version 2 is spare if version 1 can spell them
abbrev pub spare_fault : ℕ → Slices → Option Fault
spare_fault v q = if v == version_of q then None else Some SpareVersion

-- a kind other than 1 to 4
abbrev pub kind_fault : ℕ → Option Fault
kind_fault k = if k == 0 then Some Kind else if nat_lt 4 k then Some Kind else None

-- a text with another kind behind a version
abbrev pub HasOtherKind : List ℕ → Type 0
HasOtherKind [] = ⊥
HasOtherKind (v ∷ []) = ⊥
HasOtherKind (v ∷ k ∷ rest) = (version_fault v ≡ None) × (kind_fault k ≡ Some Kind)

-- a threshold that is 0 or above the count; then a count above 64
abbrev pub header_fault : ℕ × ℕ → Option Fault
header_fault h =
    if h.0 == 0 then Some BadSlices else if nat_lt h.1 h.0 then Some BadSlices
    else if nat_lt most_members h.1 then Some Limit else None

-- whether a name stands in a list
abbrev pub is_among : List ℕ → ℕ → Bool
is_among names u = list_any (λ w. w == u) names

-- a name behind as many as a tree may have; then one that stood in the tree before
abbrev pub name_fault : List ℕ → ℕ → Option Fault
name_fault seen u = if length seen == most_names then Some Limit else if is_among seen u then Some BadSlices else None

-- a length of a value that is 0 or above 256
abbrev pub length_fault : ℕ → Option Fault
length_fault n = if n == 0 then Some Limit else if nat_lt 256 n then Some Limit else None

-- a count of a nomination set above 16
abbrev pub count_fault : ℕ → Option Fault
count_fault n = if nat_lt most_nominated n then Some Limit else None

-- a statement that breaks the rules of its kind
abbrev pub statement_fault : Statement → Option Fault
statement_fault s = if is_well_formed s then None else Some BadStatement
