-- Envelopes that were filed.
use Rattle.std.specs.Prelude.{◌≡◌, ◌≢◌, ◌⊎◌, ◌≤◌, ◌+◌, ℕ, Bool, IsTrue, List, [], ◌∷◌, Option, None, Some, get_or, map, slice_get, true, if◌then◌else◌}
use Rattle.std.specs.List.{All}
use Rattle.scp_types.specs.Statements.{Sent}
use Rattle.scp_types.specs.Trees.{Slices}
use Rattle.node_store.specs.declared.filed.Filed.{Filed}

-- what an archive has at each of its numbers; at some of them nothing
abbrev pub Archived : Type 0
Archived = List (Option Sent)

-- the envelope that a number of an archive stands for
abbrev pub sent_of : Filed → Sent
sent_of f = f.put.value

-- the envelopes that numbers of an archive stand for
abbrev pub sents_of : List Filed → List Sent
sents_of fs = map sent_of fs

-- an archive has the envelope at its number
abbrev pub IsFiled : Archived → Filed → Type 0
IsFiled archive f = slice_get archive f.number ≡ Some (Some (sent_of f))

-- an archive has each of these envelopes at its number
abbrev pub AreFiled : Archived → List Filed → Type 0
AreFiled archive fs = All (IsFiled archive) fs

-- all that was filed in the archive before is filed still
abbrev pub Keeps : Archived → Archived → Type 0
Keeps old new = (f : Filed) → IsFiled old f → IsFiled new f

-- what lies at a number, if the number is held
abbrev pub if_held : Bool → Option Sent → Option Sent
if_held held o = if held then o else None

-- What an archive has at the numbers that are held, by a mark for each. What stands behind the last mark is held too.
abbrev pub only_held : List Bool → Archived → Archived
only_held [] archive = archive
only_held (m ∷ marks) [] = []
only_held (m ∷ marks) (o ∷ archive) = if_held m o ∷ only_held marks archive

-- the number of what was filed is held
abbrev pub IsHeld : List Bool → Filed → Type 0
IsHeld marks f = get_or marks f.number true ≡ true

-- the numbers of all of these are held
abbrev pub AreHeld : List Bool → List Filed → Type 0
AreHeld marks fs = All (IsHeld marks) fs

-- whatever was held before is held still
abbrev pub HoldsAll : List Bool → List Bool → Type 0
HoldsAll old new = (f : Filed) → IsHeld old f → IsHeld new f

-- the slices of an envelope, if one lies there
abbrev pub slices_if_any : Option (Option Sent) → Option Slices
slices_if_any None = None
slices_if_any (Some None) = None
slices_if_any (Some (Some e)) = Some e.slices

-- the slices of what an archive has at a number, if an envelope lies there
abbrev pub filed_slices_at : Archived → ℕ → Option Slices
filed_slices_at archive n = slices_if_any (slice_get archive n)

-- at both places stands the same number, and it is not 0; behind the end of the list stands 0
pub record IsSameNumber (numbers : List ℕ) (i j : ℕ) : Type 0 where
  pub told : get_or numbers i 0 ≢ 0
  pub same : get_or numbers i 0 ≡ get_or numbers j 0

-- numbers tell slices: envelopes of the same number have the same slices, and no number is greater than the last
pub record TellSlices (archive : Archived) (numbers : List ℕ) (last : ℕ) : Type 0 where
  pub same : (i j : ℕ) (s t : Slices) → IsSameNumber numbers i j → filed_slices_at archive i ≡ Some s → filed_slices_at archive j ≡ Some t → s ≡ t
  pub within : (i : ℕ) → get_or numbers i 0 ≤ last

-- a number for slices: none, one that was not given yet, or that at another place, if the slices there are the same
abbrev pub IsNumberFor : List ℕ → ℕ → ℕ → Bool → ℕ → Type 0
IsNumberFor numbers last other is_same n = (n ≡ 0) ⊎ ((n ≡ last + 1) ⊎ (IsTrue is_same × (n ≡ get_or numbers other 0)))
