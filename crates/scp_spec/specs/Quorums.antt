-- Quorums of a partial map from names to slices, for slices of any kind.
use Rattle.std.specs.Prelude.{◌≡◌, ℕ, List, Bool, false, not, ◌&&◌, ◌||◌, Option, Some, None, IsTrue, ◌↔◌}
use Rattle.std.specs.List.{list_all}
use Rattle.scp_types.specs.Trees.{Slices}
use Rattle.scp_spec.specs.Sets.{Names, among, both, some_set, AreWithin}
use Rattle.scp_spec.specs.Satisfaction.{sat, names}

-- a node has slices, and the set satisfies them
abbrev pub is_satisfied : {Q : Type 0} → (Q → Names → Bool) → Option Q → Names → Bool
is_satisfied sat None set = false
is_satisfied sat (Some q) set = sat q set

-- a quorum: not empty, and each node in it has slices that the whole set satisfies
pub record Quorum {Q : Type 0} (sat : Q → Names → Bool) (slices_at : ℕ → Option Q) (set : Names) : Type 0 where
  pub some : (u : ℕ) × IsTrue (set u)
  pub each : (u : ℕ) → IsTrue (set u) → IsTrue (is_satisfied sat (slices_at u) set)

-- some quorum within the supporters contains the node
pub record HasQuorum {Q : Type 0} (sat : Q → Names → Bool) (slices_at : ℕ → Option Q) (supporters : Names)
    (node : ℕ) : Type 0 where
  pub set : Names
  pub quorum : Quorum sat slices_at set
  pub within : AreWithin set supporters
  pub member : IsTrue (set node)

-- `HasQuorum` as a test, over the sets of the listed names
unfoldable pub has_quorum : {Q : Type 0} → (Q → Names → Bool) → (ℕ → Option Q) → List ℕ → Names → ℕ → Bool
has_quorum sat slices_at all supporters node =
    some_set all
    (λ set. set node && list_all (λ u. not (set u) || (supporters u && is_satisfied sat (slices_at u) set)) all)

-- every node that has slices is listed
abbrev pub Lists : {Q : Type 0} → List ℕ → (ℕ → Option Q) → Type 0
Lists {Q} all slices_at = (u : ℕ) (q : Q) → slices_at u ≡ Some q → IsTrue (among all u)

-- if each node that has slices is listed, the test finds exactly the quorums that exist
abbrev pub QuorumsAreFound : Type 0
QuorumsAreFound = (slices_at : ℕ → Option Slices) (all : List ℕ) (supporters : Names) (node : ℕ) → Lists all slices_at
    → IsTrue (has_quorum sat slices_at all supporters node) ↔ HasQuorum sat slices_at supporters node

-- the part of a set that lies in a region
abbrev pub cut_to : Names → Names → Names
cut_to region set = both region set

-- a region holds all names of these nodes' slices
abbrev pub HoldsNamesOf : {Q : Type 0} → (Q → List ℕ) → (ℕ → Option Q) → (nodes region : Names) → Type 0
HoldsNamesOf {Q} names slices_at nodes region =
    (u : ℕ) (q : Q) → IsTrue (nodes u) → slices_at u ≡ Some q → AreWithin (among (names q)) region

-- a region holds all names of its members' slices
abbrev pub NamesWithin : {Q : Type 0} → (Q → List ℕ) → (ℕ → Option Q) → Names → Type 0
NamesWithin names slices_at region = HoldsNamesOf names slices_at region region

-- more nodes satisfy what fewer do
abbrev pub IsMonotone : {Q : Type 0} → (Q → Names → Bool) → Type 0
IsMonotone {Q} satisfies = (q : Q) (a b : Names) → AreWithin a b → IsTrue (satisfies q a) → IsTrue (satisfies q b)

-- sets that agree on the names get one answer
abbrev pub IsLocal : {Q : Type 0} → (Q → Names → Bool) → (Q → List ℕ) → Type 0
IsLocal {Q} satisfies names = (q : Q) (a b : Names) → ((u : ℕ) → IsTrue (among (names q) u) → a u ≡ b u)
    → satisfies q a ≡ satisfies q b

-- A quorum is cut to a set that has all names in the slices of those that are left. If one is left, the cut is a
-- quorum.
abbrev pub CutsAreQuorums : {Q : Type 0} → (Q → Names → Bool) → (Q → List ℕ) → Type 0
CutsAreQuorums {Q} satisfies names = (slices_at : ℕ → Option Q) (set region : Names) → Quorum satisfies slices_at set
    → HoldsNamesOf names slices_at (cut_to region set) region
    → (u : ℕ) → IsTrue (cut_to region set u) → Quorum satisfies slices_at (cut_to region set)

-- A quorum is cut to a set that has all names in the slices of those that are left. The cut is then a quorum or empty,
-- for slices of any kind that are local.
abbrev pub LocalCutsAreQuorums : Type 0 → Type 0
LocalCutsAreQuorums Q = (satisfies : Q → Names → Bool) (names : Q → List ℕ) → IsLocal satisfies names → CutsAreQuorums satisfies names

-- A quorum is cut to a set that has all names in the slices of those that are left. The cut is then a quorum or empty,
-- for nested slices.
abbrev pub NestedCutsAreQuorums : Type 0
NestedCutsAreQuorums = CutsAreQuorums sat names
