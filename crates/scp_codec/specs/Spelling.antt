-- The one spelling of each envelope. All numbers are big-endian.
use Rattle.std.specs.Prelude.{◌≡◌, ℕ, ◌/◌, ◌%◌, ◌^◌, ◌≤◌, List, [], ◌∷◌, ◌++◌, length, nat_le, Option, Some, None, if◌then◌else◌}
use Rattle.std.specs.List.{flat_map}
use Rattle.std.specs.Int.{w16, w32, w64, to_be_bytes}
use Rattle.scp_types.specs.declared.ballot.Ballot.{Ballot}
use Rattle.scp_types.specs.declared.statement.Statement.{Statement}
use Rattle.scp_types.specs.declared.statement.Statement.TheVariants.{Nominate, Prepare, Commit, Externalize}
use Rattle.scp_types.specs.Trees.{Members, none, node, inner, Slices, depth_of, member_count}
use Rattle.scp_types.specs.Statements.{Sent, IsEnvelope}

-- a number of one byte
abbrev pub byte : ℕ → List ℕ
byte n = n ∷ []

-- the spelling of a name: its four words of 64 bits
unfoldable pub name : ℕ → List ℕ
name u =
    to_be_bytes w64 (u / 2 ^ 192)
    ++ (to_be_bytes w64 (u / 2 ^ 128 % 2 ^ 64) ++ (to_be_bytes w64 (u / 2 ^ 64 % 2 ^ 64) ++ to_be_bytes w64 (u % 2 ^ 64)))

-- the spelling of a value: two bytes of length, and that many bytes
abbrev pub value : List ℕ → List ℕ
value bytes = to_be_bytes w16 (length bytes) ++ bytes

-- the spelling of a ballot: four bytes of counter, and the value
abbrev pub ballot : Ballot → List ℕ
ballot b = to_be_bytes w32 b.counter ++ value b.value

-- the spelling of a ballot that may be missing: a 0, or a 1 and the ballot
abbrev pub optional : Option Ballot → List ℕ
optional None = 0 ∷ []
optional (Some b) = 1 ∷ ballot b

-- the spelling of a set of a nomination: a count, and the values
abbrev pub nominated_values : List (List ℕ) → List ℕ
nominated_values vs = length vs ∷ flat_map value vs

-- each member: a 0 and a name, or a 1 and a set
abbrev pub members : Members → List ℕ
members none = []
members (node u rest) = 0 ∷ name u ++ members rest
members (inner k own rest) = 1 ∷ k ∷ member_count own ∷ members own ++ members rest

-- the spelling of a set: a threshold, a count, and the members
abbrev pub slices : Slices → List ℕ
slices q = q.threshold ∷ member_count q.members ∷ members q.members

-- the spelling of a kind: its number
abbrev pub kind : Statement → ℕ
kind (Nominate voted accepted) = 1
kind (Prepare b p a h c) = 2
kind (Commit b p h c) = 3
kind (Externalize b h) = 4

-- the spelling of a statement's fields
abbrev pub body : Statement → List ℕ
body (Nominate voted accepted) = nominated_values voted ++ nominated_values accepted
body (Prepare b p a h c) = ballot b ++ optional p ++ to_be_bytes w32 a ++ to_be_bytes w32 h ++ to_be_bytes w32 c
body (Commit b p h c) = ballot b ++ to_be_bytes w32 p ++ to_be_bytes w32 h ++ to_be_bytes w32 c
body (Externalize b h) = ballot b ++ to_be_bytes w32 h

-- the most levels of inner sets that version 1 has
abbrev pub first_levels : ℕ
first_levels = 2

-- the version in which slices are spelled: 1 if that has levels enough, else 2
abbrev pub version_of : Slices → ℕ
version_of q = if nat_le (depth_of q.members) first_levels then 1 else 2

-- the spelling of an envelope: version, kind, sender, slot, slices and statement
abbrev pub spelling : Sent → List ℕ
spelling e =
    version_of e.slices ∷ kind e.body ∷ name e.sender ++ to_be_bytes w64 e.slot ++ slices e.slices ++ body e.body

-- the most bytes that an envelope's text may have: 65,536
abbrev pub most_bytes : ℕ
most_bytes = 65536

-- the bytes are the spelling of e, and e is an envelope
pub record Spells (bytes : List ℕ) (e : Sent) : Type 0 where
  pub envelope : IsEnvelope e
  pub text : bytes ≡ spelling e

-- e has a spelling, which is not too long; nothing else spells e, and it spells nothing else
pub record HasOneSpelling (e : Sent) : Type 0 where
  pub spelled : Spells (spelling e) e
  pub short : length (spelling e) ≤ most_bytes
  pub no_other : (bytes : List ℕ) → Spells bytes e → bytes ≡ spelling e
  pub of_no_other : (d : Sent) → Spells (spelling e) d → d ≡ e
