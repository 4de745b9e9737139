-- The search for a quorum over places.
use Rattle.std.specs.Prelude.{◌≡◌, ℕ, zero, suc, ◌+◌, ◌<◌, List, get_or, length, Bool, false, ◌&&◌, ◌==◌, Option, Some, None, IsTrue}
use Rattle.scp_types.specs.Trees.{Slices}
use Rattle.scp_spec.specs.Sets.{Names, among, AreWithin}
use Rattle.scp_spec.specs.Satisfaction.{sat}
use Rattle.scp_spec.specs.Quorums.{Quorum, is_satisfied}
use Rattle.scp_bits.specs.Places.{bit_of, Numbered}
use Rattle.scp_bits.specs.Met.{has_needed, nodes_at}

-- there are compiled slices, and the places meet them
abbrev pub met_at : Option Numbered → List ℕ → Bool
met_at None ws = false
met_at (Some f) ws = has_needed f.set ws

-- the place is in the set, and the set meets its slices
abbrev pub stays_at : List (Option Numbered) → List ℕ → ℕ → Bool
stays_at cs ws i = (bit_of ws i == 1) && met_at (get_or cs i None) ws

-- forms of one number are of one set
abbrev pub AreAgreed : List (Option Numbered) → Type 0
AreAgreed fs =
    (i j : ℕ) (f g : Numbered) → get_or fs i None ≡ Some f → get_or fs j None ≡ Some g → f.number ≡ g.number
    → f.set ≡ g.set

-- each node's compiled slices stand at its place: places meet them exactly if the nodes at those places satisfy its
-- slices. Forms of one number are of one set
pub record AreCompiled (us : List ℕ) (slices_at : ℕ → Option Slices) (cs : List (Option Numbered)) : Type 0 where
  pub as_many : length cs ≡ length us
  pub each : (i : ℕ) → i < length us → (ws : List ℕ)
      → met_at (get_or cs i None) ws ≡ is_satisfied sat (slices_at (get_or us i 0)) (among (nodes_at us ws))
  pub agreed : AreAgreed cs

-- a set within the supporters that no quorum among them has lost a node of
pub record IsLeft (slices_at : ℕ → Option Slices) (supporters set : Names) : Type 0 where
  pub within : AreWithin set supporters
  pub all_quorums : (q : Names) → Quorum sat slices_at q → AreWithin q supporters → AreWithin q set

-- a set of places meets the slices of all its places
abbrev pub AllMet : List (Option Numbered) → List ℕ → Type 0
AllMet cs ws = (i : ℕ) → i < length cs → bit_of ws i ≡ 1 → IsTrue (met_at (get_or cs i None) ws)

-- how many of the first places are in the set of places
abbrev pub live : ℕ → List ℕ → ℕ
live zero ws = 0
live (suc n) ws = bit_of ws n + live n ws
