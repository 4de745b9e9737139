-- What a report says: a closure as a list, and for each hosted member the single members that block its slices.
use Rattle.std.specs.Prelude.{◌≡◌, ◌↔◌, ◌&&◌, ℕ, List, [], ◌∷◌, Option, Some, All, map, is_some, IsTrue}
use Rattle.scp_types.specs.Trees.{Slices}
use Rattle.scp_spec.specs.Sets.{Names, among, IsAscending}
use Rattle.scp_spec.specs.Satisfaction.{Blocks, sat}
use Rattle.host_closure.specs.Announcing.{MemberList}

-- a report: the closure, and the hosted members, each with those that block it
pub record Shown : Type 0 where
  pub members : MemberList
  pub hosted : List (ℕ × List ℕ)

-- exactly the members of a set that block the slices each by itself, ascending
pub record AreBlockers (q : Slices) (set : Names) (blockers : List ℕ) : Type 0 where
  pub ascending : IsAscending blockers
  pub exactly : (w : ℕ) → IsTrue (among blockers w) ↔ IsTrue (set w) × Blocks sat q (among (w ∷ []))

-- a node with the single members of a set that block its slices, by whose slices are whose
abbrev pub IsBlockedBy : (ℕ → Option Slices) → Names → ℕ × List ℕ → Type 0
IsBlockedBy slices set h = (q : Slices) → slices h.0 ≡ Some q → AreBlockers q set h.1

-- exactly the members of a set that have slices, ascending, each with the single members that block these
pub record AreHosted (slices : ℕ → Option Slices) (set : Names) (hosted : List (ℕ × List ℕ)) : Type 0 where
  pub ascending : IsAscending (map (λ h. h.0) hosted)
  pub exactly : (u : ℕ) → among (map (λ h. h.0) hosted) u ≡ (set u && is_some (slices u))
  pub blockers : All (IsBlockedBy slices set) hosted
